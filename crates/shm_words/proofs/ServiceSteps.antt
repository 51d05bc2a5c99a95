-- The service's steps keep the rule.
use Rattle.std.proofs.Common.{◌≡◌, ℕ, ◌+◌, ◌-◌, ◌≤◌, ◌<◌, List, set, get_or, refl, sym, ap, ◌∙◌, subst, arith, length-set, get_or-set_same}
use Rattle.std.proofs.lemmas.List.{get_or-set_other, set-get_or}
use mathlib.Core.Option.{none}
use Rattle.atomic_table.specs.Table.{step, Allows}
use Rattle.gpu_cmd.specs.Lawful.{places_of}
use Rattle.gpu_plan.specs.Plans.{PlanData}
use Rattle.gpu_plan.specs.MayHold.{MayHold}
use Rattle.gpu_plan.proofs.Passing.{bound_grows_by_greatest}
use Rattle.shm_words.specs.declared.view.ServiceView.{ServiceView}
use Rattle.shm_words.specs.declared.view.View.TheVariants.{Service}
use Rattle.shm_words.specs.Views.{WordSeat, service_of, reach_of, fetched_one, finished_one, told_token, loads_mark, fetches, stores_finish, stores_token}
use Rattle.shm_words.specs.Rule.{WordState, InUse, KeepsWords}
use Rattle.shm_words.specs.Seen.{IsService}
use Rattle.shm_words.proofs.Seats.{ServiceMoves, service_step}

-- the service's view and the words as they are
stays : (p : PlanData) (s : WordState) (run : InUse p s) (i : ℕ) → ServiceMoves p s run.client (set s.words i (get_or s.words i 0)) run.service
stays p s run i = subst (λ (ws : List ℕ). ServiceMoves p s run.client ws run.service) (sym (set-get_or s.words i 0)) (record {
  plan = run.service_plan;
  wide = refl;
  values = λ j. refl;
  flush_mark = refl;
  service_mark = run.service_mark;
  finish_word = run.finish_word;
  token_word = run.token_word;
  bounded = run.bounded;
})

-- the latest flush met lies within the client's reach
met_below : (p : PlanData) (s : WordState) (run : InUse p s) (v : ServiceView) → v ≡ run.service → v.met ≤ reach_of v
met_below p s run v same = subst (λ (x : ServiceView). x.met ≤ reach_of x) (sym same) (let a = run.service_mark in let b = run.flush_mark in let c = run.bounded in omega arith)

-- kind 6: the service loads the flush mark
pub sees : (p : PlanData) (slots id : ℕ) (me : WordSeat) → IsService me → Allows (KeepsWords p) slots id me 0 (λ n. n) (loads_mark (step slots 0 0 0 none) me)
sees p slots id me is = service_step p slots id me 0 (λ n. n) (λ _ v. v) (loads_mark (step slots 0 0 0 none) me) is
    (λ s run _. stays p s run 0)
    (λ s run same. let mine : me.0 ≡ Service (service_of me.0) = ap (λ (m : WordSeat). m.0) is in ((λ i. (sym mine i, me.1)), met_below p s run (service_of me.0) same))

-- the word of a place is one that the client may have put
may_be : (p : PlanData) (s : WordState) (run : InUse p s) (v : ServiceView) (i : ℕ) → i < places_of v.plan.areas → v ≡ run.service → MayHold v.plan.actions v.met (reach_of v) i (get_or s.words (3 + i) 0)
may_be p s run v i within same =
    let plan : v.plan ≡ p = ap (λ (x : ServiceView). x.plan) same ∙ run.service_plan in
    let in_plan : i < places_of p.areas = subst (λ (q : PlanData). i < places_of q.areas) plan within in
    subst (λ (x : ServiceView). MayHold x.plan.actions x.met (reach_of x) i (get_or s.words (3 + i) 0)) (sym same)
    (subst (λ (q : PlanData). MayHold q.actions run.service.met (reach_of run.service) i (get_or s.words (3 + i) 0)) (sym run.service_plan) (record {
      done = run.client.done;
      since = let a = run.service_mark in let b = run.flush_mark in omega arith;
      until = run.bounded;
      held = sym (run.values i in_plan);
    }))

-- kind 7: the service loads the word of a place
pub fetches_one : (p : PlanData) (slots id : ℕ) (me : WordSeat) (i : ℕ) → IsService me → i < places_of (service_of me.0).plan.areas → Allows (KeepsWords p) slots id me (3 + i) (λ n. n) (fetches (step slots (3 + i) 0 0 none) me)
fetches_one p slots id me i is within = service_step p slots id me (3 + i) (λ n. n) (λ r v. fetched_one (3 + i - 3) r v) (fetches (step slots (3 + i) 0 0 none) me) is
    (λ s run _. let m = stays p s run (3 + i) in record { plan = m.plan; wide = m.wide; values = m.values; flush_mark = m.flush_mark; service_mark = m.service_mark; finish_word = m.finish_word; token_word = m.token_word; bounded = m.bounded })
    (λ s run same. (refl, subst (λ (j : ℕ). MayHold (service_of me.0).plan.actions (service_of me.0).met (reach_of (service_of me.0)) j (get_or s.words (3 + i) 0)) (omega arith) (may_be p s run (service_of me.0) i within same)))

finished_moves : (p : PlanData) (s : WordState) (run : InUse p s) (val : ℕ) → val ≡ run.service.finished + 1 → ServiceMoves p s run.client (set s.words 1 val) (finished_one run.service)
finished_moves p s run val is =
    let wide = run.wide in
    let same0 : get_or (set s.words 1 val) 0 0 ≡ get_or s.words 0 0 = get_or-set_other s.words 1 0 val 0 (λ e. omega arith) in record {
      plan = run.service_plan;
      wide = length-set s.words 1 val;
      values = λ i. get_or-set_other s.words 1 (3 + i) val 0 (λ e. omega arith);
      flush_mark = same0;
      service_mark = let h = run.service_mark in omega arith;
      finish_word = get_or-set_same s.words 1 val 0 (omega arith) ∙ is;
      token_word = get_or-set_other s.words 1 2 val 0 (λ e. omega arith) ∙ run.token_word;
      bounded = let a = run.bounded in let b = bound_grows_by_greatest run.service.plan.actions run.service.finished (run.service.finished + 1) run.service.greatest run.service.greatest (omega arith) (omega arith) in omega arith;
    }

-- kind 8: the service stores the finish word
pub finishes : (p : PlanData) (slots id : ℕ) (me : WordSeat) (val : ℕ) → IsService me → val ≡ (service_of me.0).finished + 1 → Allows (KeepsWords p) slots id me 1 (λ _. val) (λ _. stores_finish (step slots 1 val 0 none) me val)
finishes p slots id me val is more = service_step p slots id me 1 (λ _. val) (λ _ v. finished_one v) (λ _. stores_finish (step slots 1 val 0 none) me val) is
    (λ s run same. finished_moves p s run val (more ∙ ap (λ (v : ServiceView). v.finished + 1) same))
    (λ _ _ _. refl)

token_moves : (p : PlanData) (s : WordState) (run : InUse p s) (val : ℕ) → run.service.greatest ≤ val → ServiceMoves p s run.client (set s.words 2 val) (told_token val run.service)
token_moves p s run val grows =
    let wide = run.wide in
    let same0 : get_or (set s.words 2 val) 0 0 ≡ get_or s.words 0 0 = get_or-set_other s.words 2 0 val 0 (λ e. omega arith) in record {
      plan = run.service_plan;
      wide = length-set s.words 2 val;
      values = λ i. get_or-set_other s.words 2 (3 + i) val 0 (λ e. omega arith);
      flush_mark = same0;
      service_mark = let h = run.service_mark in omega arith;
      finish_word = get_or-set_other s.words 2 1 val 0 (λ e. omega arith) ∙ run.finish_word;
      token_word = get_or-set_same s.words 2 val 0 (omega arith);
      bounded = let a = run.bounded in let b = bound_grows_by_greatest run.service.plan.actions run.service.finished run.service.finished run.service.greatest val (omega arith) grows in omega arith;
    }

-- kind 10: the service stores the token word
pub tells_token : (p : PlanData) (slots id : ℕ) (me : WordSeat) (val : ℕ) → IsService me → (service_of me.0).greatest ≤ val → Allows (KeepsWords p) slots id me 2 (λ _. val) (λ _. stores_token (step slots 2 val 0 none) me val)
tells_token p slots id me val is grows = service_step p slots id me 2 (λ _. val) (λ _ v. told_token val v) (λ _. stores_token (step slots 2 val 0 none) me val) is
    (λ s run same. token_moves p s run val (subst (λ (v : ServiceView). v.greatest ≤ val) same grows))
    (λ _ _ _. refl)

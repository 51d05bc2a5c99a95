-- The client's steps keep the rule.
use Rattle.std.proofs.Common.{◌≡◌, ℕ, ◌+◌, ◌≤◌, ◌<◌, Bool, true, false, ◌||◌, Option, cond, nat_le, List, [], ◌∷◌, length, set, get_or, take, Some, refl, sym, ap, ◌∙◌, subst, arith, length-set, get_or-set_same, eq-eqb, ne_eqb}
use Rattle.std.specs.Prelude.{slice_get}
use Rattle.std.specs.List.{list_any}
use Rattle.std.proofs.Math.Bool.{or-true}
use Rattle.std.proofs.lemmas.List.{get_or-set_other, set-get_or}
use mathlib.Core.Option.{none}
use mathlib.Core.Logic.{dite}
use native.Mathlib.Decide.{ℕ_discrete}
use Rattle.atomic_table.specs.Table.{step, Allows}
use Rattle.gpu_cmd.specs.Lawful.{places_of}
use Rattle.gpu_plan.specs.declared.plan.Action.{Action}
use Rattle.gpu_plan.specs.declared.plan.Action.TheVariants.{Put, Flush, Finish, Token, Close}
use Rattle.gpu_plan.specs.Plans.{PlanData}
use Rattle.gpu_plan.specs.Values.{after, value_at}
use Rattle.gpu_plan.specs.Passes.{flushes, passes_behind, passes_if_there, passes}
use Rattle.gpu_plan.proofs.Holding.{value_one_further}
use Rattle.gpu_plan.proofs.Passing.{bound_one_further}
use Rattle.shm_words.specs.declared.view.ClientView.{ClientView}
use Rattle.shm_words.specs.Views.{WordSeat, client_of, client_next, flushes_of, is_enough, reach_of, one_done, flush_done, loaded, stores_data, stores_mark, loads_finish, loads_token}
use Rattle.shm_words.specs.Rule.{WordState, InUse, KeepsWords}
use Rattle.shm_words.specs.Seen.{IsClient}
use Rattle.shm_words.specs.Acts.{is_await}
use Rattle.shm_words.proofs.Seats.{ClientMoves, client_step}

-- a place after its own put, and after that of another
placed : (p : PlanData) (ws : List ℕ) (place val k i : ℕ) → 3 + place < length ws → slice_get p.actions k ≡ Some (Put place val) → get_or ws (3 + i) 0 ≡ value_at p.actions k i → get_or (set ws (3 + place) val) (3 + i) 0 ≡ value_at p.actions (k + 1) i
placed p ws place val k i in_words next was = dite (ℕ_discrete place i)
    (λ e. let here : get_or (set ws (3 + place) val) (3 + i) 0 ≡ val = subst (λ (j : ℕ). get_or (set ws (3 + place) val) (3 + j) 0 ≡ val) e (get_or-set_same ws (3 + place) val 0 in_words) in
    here ∙ sym (value_one_further p.actions k i (Put place val) next ∙ ap (λ (b : Bool). cond b val (value_at p.actions k i)) (eq-eqb place i e)))
    (λ ne. get_or-set_other ws (3 + place) (3 + i) val 0 (λ e. ne (omega arith)) ∙ was ∙ sym (value_one_further p.actions k i (Put place val) next ∙ ap (λ (b : Bool). cond b val (value_at p.actions k i)) (ne_eqb place i ne)))

-- the client's next action, where it passes, lies below its bound
below : (p : PlanData) (s : WordState) (run : InUse p s) (a : Action) → slice_get p.actions run.client.done ≡ Some a → passes_behind (flushes (take run.client.done p.actions)) run.service.finished (run.service.greatest ∷ []) a ≡ true → run.client.done + 1 ≤ reach_of run.service
below p s run a next through =
    let k = run.client.done in
    let g = run.service.finished in
    let tokens = run.service.greatest ∷ [] in
    let here : passes run.service.plan.actions k g tokens ≡ true = ap (λ (q : PlanData). passes q.actions k g tokens) run.service_plan ∙ ap (passes_if_there (flushes (take k p.actions)) g tokens) next ∙ through in
    bound_one_further run.service.plan.actions k g tokens run.bounded here

-- what is next for the client's view is next in the plan
next_in : (p : PlanData) (s : WordState) (run : InUse p s) (c : ClientView) (a : Action) → c ≡ run.client → client_next c ≡ Some a → slice_get p.actions run.client.done ≡ Some a
next_in p s run c a same next = subst (λ (q : PlanData). slice_get q.actions run.client.done ≡ Some a) run.client_plan (subst (λ (k : ClientView). client_next k ≡ Some a) same next)

data_moves : (p : PlanData) (s : WordState) (run : InUse p s) (place val : ℕ) → slice_get p.actions run.client.done ≡ Some (Put place val) → place < places_of p.areas → ClientMoves p s run.service (set s.words (3 + place) val) (one_done run.client)
data_moves p s run place val next within =
    let wide = run.wide in
    let in_words : 3 + place < length s.words = omega arith in
    let same0 : get_or (set s.words (3 + place) val) 0 0 ≡ get_or s.words 0 0 = get_or-set_other s.words (3 + place) 0 val 0 (λ e. omega arith) in record {
      plan = run.client_plan;
      wide = length-set s.words (3 + place) val;
      values = λ i h. placed p s.words place val run.client.done i in_words next (run.values i h);
      flush_mark = let h = run.flush_mark in omega arith;
      client_mark = let h = run.client_mark in omega arith;
      grows = omega arith;
      finish_word = get_or-set_other s.words (3 + place) 1 val 0 (λ e. omega arith);
      token_word = get_or-set_other s.words (3 + place) 2 val 0 (λ e. omega arith);
      bounded = below p s run (Put place val) next refl;
    }

-- kind 1: the client stores the value of a put
pub stores : (p : PlanData) (slots id : ℕ) (me : WordSeat) (place val : ℕ) → IsClient me → client_next (client_of me.0) ≡ Some (Put place val) → place < places_of (client_of me.0).plan.areas
    → Allows (KeepsWords p) slots id me (3 + place) (λ _. val) (λ _. stores_data (step slots (3 + place) val 0 none) me val)
stores p slots id me place val is next within = client_step p slots id me (3 + place) (λ _. val) (λ _ c. one_done c) (λ _. stores_data (step slots (3 + place) val 0 none) me val) is
    (λ s run same. data_moves p s run place val (next_in p s run (client_of me.0) (Put place val) same next)
    (subst (λ (q : PlanData). place < places_of q.areas) run.client_plan (subst (λ (k : ClientView). place < places_of k.plan.areas) same within)))
    (λ _. refl)

mark_moves : (p : PlanData) (s : WordState) (run : InUse p s) (put : ℕ) (fences : List (ℕ × ℕ)) (val : ℕ) → slice_get p.actions run.client.done ≡ Some (Flush put fences) → val ≡ run.client.done + 1 → ClientMoves p s run.service (set s.words 0 val) (flush_done run.client)
mark_moves p s run put fences val next is =
    let wide = run.wide in
    let stored : get_or (set s.words 0 val) 0 0 ≡ val = get_or-set_same s.words 0 val 0 (omega arith) in record {
      plan = run.client_plan;
      wide = length-set s.words 0 val;
      values = λ i h. get_or-set_other s.words 0 (3 + i) val 0 (λ e. omega arith) ∙ run.values i h ∙ sym (value_one_further p.actions run.client.done i (Flush put fences) next);
      flush_mark = omega arith;
      client_mark = omega arith;
      grows = let h = run.flush_mark in omega arith;
      finish_word = get_or-set_other s.words 0 1 val 0 (λ e. omega arith);
      token_word = get_or-set_other s.words 0 2 val 0 (λ e. omega arith);
      bounded = below p s run (Flush put fences) next refl;
    }

-- kind 2: the client stores the mark of a flush
pub marks : (p : PlanData) (slots id : ℕ) (me : WordSeat) (put : ℕ) (fences : List (ℕ × ℕ)) (val : ℕ) → IsClient me → client_next (client_of me.0) ≡ Some (Flush put fences) → val ≡ (client_of me.0).done + 1
    → Allows (KeepsWords p) slots id me 0 (λ _. val) (λ _. stores_mark (step slots 0 val 0 none) me val)
marks p slots id me put fences val is next mark = client_step p slots id me 0 (λ _. val) (λ _ c. flush_done c) (λ _. stores_mark (step slots 0 val 0 none) me val) is
    (λ s run same. mark_moves p s run put fences val (next_in p s run (client_of me.0) (Flush put fences) same next) (mark ∙ ap (λ (k : ClientView). k.done + 1) same))
    (λ _. refl)

-- an await puts nothing
await_keeps : (i old : ℕ) (a : Action) → is_await a ≡ true → after i old a ≡ old
await_keeps i old (Put place val) e = absurd (cc)
await_keeps i old (Flush put fences) e = refl
await_keeps i old Finish e = refl
await_keeps i old (Token token) e = refl
await_keeps i old Close e = refl

finish_is_enough : (f g : ℕ) (tokens : List ℕ) (a : Action) → is_await a ≡ true → nat_le f g ≡ true → passes_behind f g tokens a ≡ true
finish_is_enough f g tokens (Put place val) e h = refl
finish_is_enough f g tokens (Flush put fences) e h = refl
finish_is_enough f g tokens Finish e h = h
finish_is_enough f g tokens (Token token) e h = ap (λ (b : Bool). b || list_any (nat_le token) tokens) h
finish_is_enough f g tokens Close e h = absurd (cc)

token_is_enough : (f g token x : ℕ) → nat_le token x ≡ true → passes_behind f g (x ∷ []) (Token token) ≡ true
token_is_enough f g token x h = ap (λ (b : Bool). nat_le f g || (b || false)) h ∙ or-true (nat_le f g)

-- the client loads a word
load_moves : (p : PlanData) (s : WordState) (run : InUse p s) (a : Action) (word r : ℕ) (b : Bool) → slice_get p.actions run.client.done ≡ Some a → is_await a ≡ true
    → (b ≡ true → passes_behind (flushes (take run.client.done p.actions)) run.service.finished (run.service.greatest ∷ []) a ≡ true) → ClientMoves p s run.service s.words (loaded b word r run.client)
load_moves p s run a word r true next awaits through = record {
  plan = run.client_plan;
  wide = refl;
  values = λ i h. run.values i h ∙ sym (value_one_further p.actions run.client.done i a next ∙ await_keeps i (value_at p.actions run.client.done i) a awaits);
  flush_mark = let h = run.flush_mark in omega arith;
  client_mark = run.client_mark;
  grows = omega arith;
  finish_word = refl;
  token_word = refl;
  bounded = below p s run a next (through refl);
}
load_moves p s run a word r false next awaits through =
    let none : run.client.done + 0 ≡ run.client.done = omega arith in record {
      plan = run.client_plan;
      wide = refl;
      values = λ i h. run.values i h ∙ ap (λ n. value_at p.actions n i) (sym none);
      flush_mark = let h = run.flush_mark in omega arith;
      client_mark = run.client_mark;
      grows = omega arith;
      finish_word = refl;
      token_word = refl;
      bounded = let h = run.bounded in omega arith;
    }

-- kind 3: the client loads the finish word
pub loads : (p : PlanData) (slots id : ℕ) (me : WordSeat) (a : Action) → IsClient me → client_next (client_of me.0) ≡ Some a → is_await a ≡ true
    → Allows (KeepsWords p) slots id me 1 (λ n. n) (loads_finish (step slots 1 0 0 none) me)
loads p slots id me a is next awaits = client_step p slots id me 1 (λ n. n) (λ r c. loaded (nat_le (flushes_of c) r) 1 r c) (loads_finish (step slots 1 0 0 none) me) is
    (λ s run same. subst (λ (ws : List ℕ). ClientMoves p s run.service ws (loaded (nat_le (flushes_of run.client) (get_or s.words 1 0)) 1 (get_or s.words 1 0) run.client)) (sym (set-get_or s.words 1 0))
    (load_moves p s run a 1 (get_or s.words 1 0) (nat_le (flushes_of run.client) (get_or s.words 1 0)) (next_in p s run (client_of me.0) a same next) awaits
    (λ enough. finish_is_enough (flushes (take run.client.done p.actions)) run.service.finished (run.service.greatest ∷ []) a awaits
    ((λ i. nat_le (flushes (take run.client.done (sym run.client_plan i).actions)) (sym run.finish_word i)) ∙ enough))))
    (λ _. refl)

-- kind 9: the client loads the token word
pub loads_a_token : (p : PlanData) (slots id : ℕ) (me : WordSeat) (token : ℕ) → IsClient me → client_next (client_of me.0) ≡ Some (Token token)
    → Allows (KeepsWords p) slots id me 2 (λ n. n) (loads_token (step slots 2 0 0 none) me)
loads_a_token p slots id me token is next = client_step p slots id me 2 (λ n. n) (λ r c. loaded (is_enough (client_next c) r) 2 r c) (loads_token (step slots 2 0 0 none) me) is
    (λ s run same.
    let here : client_next run.client ≡ Some (Token token) = subst (λ (k : ClientView). client_next k ≡ Some (Token token)) same next in
    subst (λ (ws : List ℕ). ClientMoves p s run.service ws (loaded (is_enough (client_next run.client) (get_or s.words 2 0)) 2 (get_or s.words 2 0) run.client)) (sym (set-get_or s.words 2 0))
    (load_moves p s run (Token token) 2 (get_or s.words 2 0) (is_enough (client_next run.client) (get_or s.words 2 0)) (next_in p s run (client_of me.0) (Token token) same next) refl
    (λ enough. token_is_enough (flushes (take run.client.done p.actions)) run.service.finished token run.service.greatest
    (ap (nat_le token) (sym run.token_word) ∙ ap (λ (o : Option Action). is_enough o (get_or s.words 2 0)) (sym here) ∙ enough))))
    (λ _. refl)

-- Which seat is the client's and which the service's, and the rule after one of them moves.
use Rattle.std.proofs.Common.{◌≡◌, ◌≢◌, ℕ, zero, suc, ◌+◌, ◌≤◌, ◌<◌, List, [], ◌∷◌, length, set, get_or, inr, ⊎_elim, sym, ap, ◌∙◌, subst, arith}
use mathlib.Core.Option.{some, some-injective, some-ne-none}
use mathlib.Core.Logic.{dite}
use native.Mathlib.Decide.{ℕ_discrete}
use lib.ListN.{get_elem?}
use Rattle.atomic_table.proofs.Lists.{set_else}
use Rattle.gpu_word.proofs.Seats.{set_there}
use Rattle.gpu_plan.specs.Plans.{PlanData}
use Rattle.gpu_cmd.specs.Lawful.{places_of}
use Rattle.gpu_plan.specs.Values.{value_at}
use Rattle.shm_words.specs.declared.view.ClientView.{ClientView}
use Rattle.shm_words.specs.declared.view.ServiceView.{ServiceView}
use Rattle.shm_words.specs.declared.view.View.{View}
use Rattle.shm_words.specs.declared.view.View.TheVariants.{Whole, Client, Service, Note, Spent}
use Rattle.shm_words.specs.Views.{client_of, service_of, WordSeat, reach_of}
use Rattle.shm_words.specs.Seen.{IsClient, IsService}
use Rattle.atomic_table.specs.Table.{keeps, Allows}
use Rattle.shm_words.specs.Rule.{WordState, IsStoredNote, Fresh, InUse, KeepsWords}

-- in a table as it is made, the one view is the whole
lone : (p : PlanData) (id : ℕ) (v : View) → get_elem? (Whole p ∷ []) id ≡ some v → v ≡ Whole p
lone p zero v e = sym (some-injective _ _ e)
lone p (suc id) v e = absurd (some-ne-none v (sym e))

pub not_fresh : (p : PlanData) (s : WordState) (id : ℕ) (v : View) → Fresh p s → get_elem? s.views id ≡ some v → v ≡ Whole p
not_fresh p s id v fresh at = lone p id v (subst (λ (l : List View). get_elem? l id ≡ some v) fresh.alone at)

module _ (p : PlanData) (s : WordState) (run : InUse p s) where
  pub client_is : (id : ℕ) (c : ClientView) → get_elem? s.views id ≡ some (Client c) → (id ≡ run.client_seat) × (c ≡ run.client)
  client_is id c at = dite (ℕ_discrete id run.client_seat)
      (λ e. let same : Client c ≡ Client run.client = some-injective _ _ (sym at ∙ ap (get_elem? s.views) e ∙ run.client_there) in let is : c ≡ run.client = cc in (e, is))
      (λ apart. dite (ℕ_discrete id run.service_seat)
      (λ e. let same : Client c ≡ Service run.service = some-injective _ _ (sym at ∙ ap (get_elem? s.views) e ∙ run.service_there) in absurd (cc))
      (λ apart'. absurd (run.others id (Client c) apart apart' at)))

  pub service_is : (id : ℕ) (v : ServiceView) → get_elem? s.views id ≡ some (Service v) → (id ≡ run.service_seat) × (v ≡ run.service)
  service_is id v at = dite (ℕ_discrete id run.service_seat)
      (λ e. let same : Service v ≡ Service run.service = some-injective _ _ (sym at ∙ ap (get_elem? s.views) e ∙ run.service_there) in let is : v ≡ run.service = cc in (e, is))
      (λ apart. dite (ℕ_discrete id run.client_seat)
      (λ e. let same : Service v ≡ Client run.client = some-injective _ _ (sym at ∙ ap (get_elem? s.views) e ∙ run.client_there) in absurd (cc))
      (λ apart'. absurd (run.others id (Service v) apart' apart at)))

  pub apart : run.client_seat ≢ run.service_seat
  apart e = let same : Client run.client ≡ Service run.service = some-injective _ _ (sym run.client_there ∙ ap (get_elem? s.views) e ∙ run.service_there) in cc

pub note_grows : (m n : ℕ) (u : View) → m ≤ n → IsStoredNote m u → IsStoredNote n u
note_grows m n (Note k) h b = omega arith
note_grows m n Spent h b = tt
note_grows m n (Whole p) h b = b
note_grows m n (Client c) h b = b
note_grows m n (Service v) h b = b

-- the client's new view and the words are as the rule wants
pub record ClientMoves (p : PlanData) (s : WordState) (v : ServiceView) (ws : List ℕ) (c : ClientView) : Type 0 where
  pub plan : c.plan ≡ p
  pub wide : length ws ≡ length s.words
  pub values : (i : ℕ) → i < places_of p.areas → get_or ws (3 + i) 0 ≡ value_at p.actions c.done i
  pub flush_mark : get_or ws 0 0 ≤ c.done
  pub client_mark : c.mark ≤ get_or ws 0 0
  pub grows : get_or s.words 0 0 ≤ get_or ws 0 0
  pub finish_word : get_or ws 1 0 ≡ get_or s.words 1 0
  pub token_word : get_or ws 2 0 ≡ get_or s.words 2 0
  pub bounded : c.done ≤ reach_of v

pub client_moves : (p : PlanData) (s : WordState) (run : InUse p s) (id : ℕ) (ws : List ℕ) (c : ClientView) → id ≡ run.client_seat → ClientMoves p s run.service ws c → InUse p (record { words = ws; homes = s.homes; views = set s.views id (Client c) })
client_moves p s run id ws c is m = record {
  client_seat = run.client_seat;
  service_seat = run.service_seat;
  client = c;
  service = run.service;
  client_there = subst (λ (j : ℕ). get_elem? (set s.views j (Client c)) run.client_seat ≡ some (Client c)) (sym is) (set_there s.views run.client_seat (Client run.client) (Client c) run.client_there);
  service_there = set_else s.views id run.service_seat (Client c) (λ e. apart p s run (sym (e ∙ is))) ∙ run.service_there;
  others = λ j u no no' at. note_grows (get_or s.words 0 0) (get_or ws 0 0) u m.grows (run.others j u no no' (sym (set_else s.views id j (Client c) (λ e. no (e ∙ is))) ∙ at));
  client_plan = m.plan;
  service_plan = run.service_plan;
  wide = m.wide ∙ run.wide;
  values = m.values;
  flush_mark = m.flush_mark;
  client_mark = m.client_mark;
  service_mark = let h = run.service_mark in let g = m.grows in omega arith;
  finish_word = m.finish_word ∙ run.finish_word;
  token_word = m.token_word ∙ run.token_word;
  bounded = m.bounded;
}

-- the service's new view and the words are as the rule wants
pub record ServiceMoves (p : PlanData) (s : WordState) (k : ClientView) (ws : List ℕ) (v : ServiceView) : Type 0 where
  pub plan : v.plan ≡ p
  pub wide : length ws ≡ length s.words
  pub values : (i : ℕ) → get_or ws (3 + i) 0 ≡ get_or s.words (3 + i) 0
  pub flush_mark : get_or ws 0 0 ≡ get_or s.words 0 0
  pub service_mark : v.met ≤ get_or ws 0 0
  pub finish_word : get_or ws 1 0 ≡ v.finished
  pub token_word : get_or ws 2 0 ≡ v.greatest
  pub bounded : k.done ≤ reach_of v

pub service_moves : (p : PlanData) (s : WordState) (run : InUse p s) (id : ℕ) (ws : List ℕ) (v : ServiceView) → id ≡ run.service_seat → ServiceMoves p s run.client ws v → InUse p (record { words = ws; homes = s.homes; views = set s.views id (Service v) })
service_moves p s run id ws v is m = record {
  client_seat = run.client_seat;
  service_seat = run.service_seat;
  client = run.client;
  service = v;
  client_there = set_else s.views id run.client_seat (Service v) (λ e. apart p s run (e ∙ is)) ∙ run.client_there;
  service_there = subst (λ (j : ℕ). get_elem? (set s.views j (Service v)) run.service_seat ≡ some (Service v)) (sym is) (set_there s.views run.service_seat (Service run.service) (Service v) run.service_there);
  others = λ j u no no' at. note_grows (get_or s.words 0 0) (get_or ws 0 0) u (let e = m.flush_mark in omega arith) (run.others j u no no' (sym (set_else s.views id j (Service v) (λ e. no' (e ∙ is))) ∙ at));
  client_plan = run.client_plan;
  service_plan = m.plan;
  wide = m.wide ∙ run.wide;
  values = λ i h. m.values i ∙ run.values i h;
  flush_mark = let e = m.flush_mark in let h = run.flush_mark in omega arith;
  client_mark = let e = m.flush_mark in let h = run.client_mark in omega arith;
  service_mark = m.service_mark;
  finish_word = m.finish_word;
  token_word = m.token_word;
  bounded = m.bounded;
}

-- a step of the client on the word i, which becomes f of what it was
pub client_step : (p : PlanData) (slots id : ℕ) (me : WordSeat) (i : ℕ) (f : ℕ → ℕ) (g : ℕ → ClientView → ClientView) (then : ℕ → WordSeat → Type 0) → IsClient me
    → ((s : WordState) (run : InUse p s) → client_of me.0 ≡ run.client → ClientMoves p s run.service (set s.words i (f (get_or s.words i 0))) (g (get_or s.words i 0) run.client))
    → ((r : ℕ) → then r (Client (g r (client_of me.0)), me.1))
    → Allows (KeepsWords p) slots id me i f then
client_step p slots id me i f g then is moves tells s kept _ at _ =
    let c : ClientView = client_of me.0 in
    let r : ℕ = get_or s.words i 0 in
    let at' : get_elem? s.views id ≡ some (Client c) = at ∙ ap (λ (m : WordSeat). some m.0) is in
    ⊎_elim
    (λ (fresh : Fresh p s). let no : Client c ≡ Whole p = not_fresh p s id (Client c) fresh at' in absurd (cc))
    (λ (run : InUse p s).
    let who = client_is p s run id c at' in
    let step : ClientMoves p s run.service (set s.words i (f r)) (g r c) = subst (λ (k : ClientView). ClientMoves p s run.service (set s.words i (f r)) (g r k)) (sym who.1) (moves s run who.1) in
    (Client (g r c), keeps, tt, inr (client_moves p s run id (set s.words i (f r)) (g r c) who.0 step), tells r))
    kept

-- the same of the service
pub service_step : (p : PlanData) (slots id : ℕ) (me : WordSeat) (i : ℕ) (f : ℕ → ℕ) (g : ℕ → ServiceView → ServiceView) (then : ℕ → WordSeat → Type 0) → IsService me
    → ((s : WordState) (run : InUse p s) → service_of me.0 ≡ run.service → ServiceMoves p s run.client (set s.words i (f (get_or s.words i 0))) (g (get_or s.words i 0) run.service))
    → ((s : WordState) (run : InUse p s) → service_of me.0 ≡ run.service → then (get_or s.words i 0) (Service (g (get_or s.words i 0) (service_of me.0)), me.1))
    → Allows (KeepsWords p) slots id me i f then
service_step p slots id me i f g then is moves tells s kept _ at _ =
    let v : ServiceView = service_of me.0 in
    let r : ℕ = get_or s.words i 0 in
    let at' : get_elem? s.views id ≡ some (Service v) = at ∙ ap (λ (m : WordSeat). some m.0) is in
    ⊎_elim
    (λ (fresh : Fresh p s). let no : Service v ≡ Whole p = not_fresh p s id (Service v) fresh at' in absurd (cc))
    (λ (run : InUse p s).
    let who = service_is p s run id v at' in
    let step : ServiceMoves p s run.client (set s.words i (f r)) (g r v) = subst (λ (k : ServiceView). ServiceMoves p s run.client (set s.words i (f r)) (g r k)) (sym who.1) (moves s run who.1) in
    (Service (g r v), keeps, tt, inr (service_moves p s run id (set s.words i (f r)) (g r v) who.0 step), tells s run who.1))
    kept

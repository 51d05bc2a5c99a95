-- Seats that are cut and joined keep the rule.
use Rattle.std.proofs.Common.{◌≡◌, ◌≢◌, ℕ, zero, suc, ◌+◌, ◌≤◌, ◌<◌, List, [], ◌∷◌, ◌++◌, length, set, get_or, replicate, inl, inr, ⊎_elim, refl, sym, ap, ◌∙◌, subst, arith}
use Rattle.std.proofs.lemmas.List.{get_or-replicate, length-replicate}
use Rattle.std.proofs.Math.Nat.{max-le}
use mathlib.Core.Option.{some, some-injective, some-ne-none}
use mathlib.Core.Logic.{dite}
use native.Mathlib.Decide.{ℕ_discrete}
use lib.ListN.{get_elem?}
use Rattle.atomic_table.proofs.Lists.{at_set, at_snoc, at_longer, set_else, set_again}
use Rattle.atomic_table.specs.Table.{Splits, Joins}
use Rattle.gpu_cmd.specs.Lawful.{places_of}
use Rattle.gpu_plan.specs.Plans.{PlanData}
use Rattle.shm_words.specs.declared.view.ClientView.{ClientView}
use Rattle.shm_words.specs.declared.view.ServiceView.{ServiceView}
use Rattle.shm_words.specs.declared.view.View.{View}
use Rattle.shm_words.specs.declared.view.View.TheVariants.{Whole, Client, Service, Note, Spent}
use Rattle.shm_words.specs.Views.{WordSeat, client_of, service_of, note_mark, reach_of, fresh_client, fresh_service, met_one, note_part, note_met}
use Rattle.shm_words.specs.Rule.{WordState, IsStoredNote, Fresh, InUse, KeepsWords}
use Rattle.shm_words.specs.Seen.{IsClient, IsService, IsNote}
use Rattle.shm_words.proofs.Seats.{not_fresh, client_is, service_is, ServiceMoves, service_moves}

-- other views keep the rule where the client and the service still sit, and each other view is still one that may be there
viewed : (p : PlanData) (s : WordState) (run : InUse p s) (views : List View) → get_elem? views run.client_seat ≡ some (Client run.client) → get_elem? views run.service_seat ≡ some (Service run.service)
    → ((j : ℕ) (u : View) → j ≢ run.client_seat → j ≢ run.service_seat → get_elem? views j ≡ some u → IsStoredNote (get_or s.words 0 0) u) → InUse p (record { words = s.words; homes = s.homes; views = views })
viewed p s run views client_there service_there others = record {
  client_seat = run.client_seat;
  service_seat = run.service_seat;
  client = run.client;
  service = run.service;
  client_there = client_there;
  service_there = service_there;
  others = others;
  client_plan = run.client_plan;
  service_plan = run.service_plan;
  wide = run.wide;
  values = run.values;
  flush_mark = run.flush_mark;
  client_mark = run.client_mark;
  service_mark = run.service_mark;
  finish_word = run.finish_word;
  token_word = run.token_word;
  bounded = run.bounded;
}

-- a new view after the others, which is a note of the client's latest flush
noted : (p : PlanData) (s : WordState) (run : InUse p s) (m : ℕ) → m ≤ get_or s.words 0 0 → InUse p (record { words = s.words; homes = s.homes; views = s.views ++ Note m ∷ [] })
noted p s run m low =
    viewed p s run (s.views ++ Note m ∷ []) (at_longer s.views (Note m ∷ []) run.client_seat (Client run.client) run.client_there) (at_longer s.views (Note m ∷ []) run.service_seat (Service run.service) run.service_there)
    (λ j u no no' at. ⊎_elim (λ (was : get_elem? s.views j ≡ some u). run.others j u no no' was) (λ (new : Note m ≡ u). subst (λ (v : View). IsStoredNote (get_or s.words 0 0) v) new low) (at_snoc s.views (Note m) u j at))

-- a client hands out a note whose flush it has made
hands : (p : PlanData) (id mark : ℕ) (me : WordSeat) → IsClient me → ((s : WordState) (run : InUse p s) → client_of me.0 ≡ run.client → mark ≤ get_or s.words 0 0) → Splits (KeepsWords p) id me.0 me.0 (Note mark)
hands p id mark me is made s kept at =
    let c : ClientView = client_of me.0 in
    let at' : get_elem? s.views id ≡ some (Client c) = at ∙ ap (λ (m : WordSeat). some m.0) is in
    ⊎_elim
    (λ (fresh : Fresh p s). let no : Client c ≡ Whole p = not_fresh p s id (Client c) fresh at' in absurd (cc))
    (λ (run : InUse p s).
    inr (subst (λ (l : List View). InUse p (record { words = s.words; homes = s.homes; views = l ++ Note mark ∷ [] })) (sym (set_again s.views id me.0 at))
    (noted p s run mark (made s run (client_is p s run id c at').1))))
    kept

-- kind 4
pub notes : (p : PlanData) (id : ℕ) (me : WordSeat) → IsClient me → Splits (KeepsWords p) id me.0 me.0 (note_part me.0)
notes p id me is = hands p id (client_of me.0).mark me is (λ s run who. subst (λ (k : ClientView). k.mark ≤ get_or s.words 0 0) (sym who) run.client_mark)

-- kind 4, with no flush
pub blanks : (p : PlanData) (id : ℕ) (me : WordSeat) → IsClient me → Splits (KeepsWords p) id me.0 me.0 (Note 0)
blanks p id me is = hands p id 0 me is (λ s run who. omega arith)

-- a note is spent
spends : (p : PlanData) (s : WordState) (run : InUse p s) (id m : ℕ) → get_elem? s.views id ≡ some (Note m) → InUse p (record { words = s.words; homes = s.homes; views = set s.views id Spent })
spends p s run id m at =
    let not_client : run.client_seat ≢ id = λ e. (let same : Client run.client ≡ Note m = some-injective _ _ (sym run.client_there ∙ ap (get_elem? s.views) e ∙ at) in cc) in
    let not_service : run.service_seat ≢ id = λ e. (let same : Service run.service ≡ Note m = some-injective _ _ (sym run.service_there ∙ ap (get_elem? s.views) e ∙ at) in cc) in
    viewed p s run (set s.views id Spent) (set_else s.views id run.client_seat Spent not_client ∙ run.client_there) (set_else s.views id run.service_seat Spent not_service ∙ run.service_there)
    (λ j u no no' there. ⊎_elim
    (λ (new : (j ≡ id) × (Spent ≡ u)). subst (λ (v : View). IsStoredNote (get_or s.words 0 0) v) new.1 tt)
    (λ (old : (j ≢ id) × (get_elem? s.views j ≡ some u)). run.others j u no no' old.1)
    (at_set s.views id j Spent u there))

-- kind 5
pub joins : (p : PlanData) (id : ℕ) (me : WordSeat) (other : ℕ) (note : WordSeat) → IsService me → IsNote note → Joins (KeepsWords p) id me.0 other note.0 (note_met me.0 note.0) Spent
joins p id me other note is is_note s kept at ne there =
    let v : ServiceView = service_of me.0 in
    let m : ℕ = note_mark note.0 in
    let w : View = note_met me.0 note.0 in
    let at' : get_elem? s.views id ≡ some (Service v) = at ∙ ap (λ (x : WordSeat). some x.0) is in
    let there' : get_elem? (set s.views id w) other ≡ some (Note m) = there ∙ ap (λ (x : WordSeat). some x.0) is_note in
    let was : get_elem? s.views other ≡ some (Note m) = sym (set_else s.views id other w ne) ∙ there' in
    ⊎_elim
    (λ (fresh : Fresh p s). let no : Service v ≡ Whole p = not_fresh p s id (Service v) fresh at' in absurd (cc))
    (λ (run : InUse p s).
    let who = service_is p s run id v at' in
    let not_client : other ≢ run.client_seat = λ e. (let same : Client run.client ≡ Note m = some-injective _ _ (sym run.client_there ∙ ap (get_elem? s.views) (sym e) ∙ was) in cc) in
    let low : m ≤ get_or s.words 0 0 = run.others other (Note m) not_client (λ e. ne (e ∙ sym who.0)) was in
    let met : v.met ≤ get_or s.words 0 0 = subst (λ (x : ServiceView). x.met ≤ get_or s.words 0 0) (sym who.1) run.service_mark in
    let moves : ServiceMoves p s run.client s.words (met_one m v) = record {
      plan = ap (λ (x : ServiceView). x.plan) who.1 ∙ run.service_plan;
      wide = refl;
      values = λ j. refl;
      flush_mark = refl;
      service_mark = max-le met low;
      finish_word = run.finish_word ∙ ap (λ (x : ServiceView). x.finished) (sym who.1);
      token_word = run.token_word ∙ ap (λ (x : ServiceView). x.greatest) (sym who.1);
      bounded = subst (λ (x : ServiceView). run.client.done ≤ reach_of x) (sym who.1) run.bounded;
    } in
    inr (spends p (record { words = s.words; homes = s.homes; views = set s.views id w }) (service_moves p s run id s.words (met_one m v) who.0 moves) other m there'))
    kept

-- a running table has no whole view
no_whole : (p q : PlanData) (s : WordState) (run : InUse p s) (id : ℕ) → get_elem? s.views id ≡ some (Whole q) → ⊥
no_whole p q s run id at = dite (ℕ_discrete id run.client_seat)
    (λ e. let same : Whole q ≡ Client run.client = some-injective _ _ (sym at ∙ ap (get_elem? s.views) e ∙ run.client_there) in cc)
    (λ apart. dite (ℕ_discrete id run.service_seat)
    (λ e. let same : Whole q ≡ Service run.service = some-injective _ _ (sym at ∙ ap (get_elem? s.views) e ∙ run.service_there) in cc)
    (λ apart'. run.others id (Whole q) apart apart' at))

no_more : (p : PlanData) (n j : ℕ) (u : View) → j ≢ 0 → j ≢ 1 → get_elem? (Client (fresh_client p) ∷ Service (fresh_service p) ∷ []) j ≡ some u → IsStoredNote n u
no_more p n zero u a b e = absurd (a refl)
no_more p n (suc zero) u a b e = absurd (b refl)
no_more p n (suc (suc j)) u a b e = absurd (some-ne-none u (sym e))

starts : (p : PlanData) (s : WordState) → s.words ≡ replicate (3 + places_of p.areas) 0 → InUse p (record { words = s.words; homes = s.homes; views = Client (fresh_client p) ∷ Service (fresh_service p) ∷ [] })
starts p s zeros =
    let zero_at : (i : ℕ) → i < 3 + places_of p.areas → get_or s.words i 0 ≡ 0 = λ i h. ap (λ (ws : List ℕ). get_or ws i 0) zeros ∙ get_or-replicate (3 + places_of p.areas) i 0 0 h in
    let zero_0 = zero_at 0 (omega arith) in record {
      client_seat = 0;
      service_seat = 1;
      client = fresh_client p;
      service = fresh_service p;
      client_there = refl;
      service_there = refl;
      others = no_more p (get_or s.words 0 0);
      client_plan = refl;
      service_plan = refl;
      wide = ap length zeros ∙ length-replicate (3 + places_of p.areas) 0;
      values = λ i h. zero_at (3 + i) (omega arith);
      flush_mark = omega arith;
      client_mark = omega arith;
      service_mark = omega arith;
      finish_word = zero_at 1 (omega arith);
      token_word = zero_at 2 (omega arith);
      bounded = omega arith;
    }

first_seat : (p q : PlanData) (id : ℕ) → get_elem? (Whole p ∷ []) id ≡ some (Whole q) → (id ≡ 0) × (q ≡ p)
first_seat p q zero e = let same : Whole p ≡ Whole q = some-injective _ _ e in let is : q ≡ p = cc in (refl, is)
first_seat p q (suc id) e = absurd (some-ne-none (Whole q) (sym e))

-- the first seat is cut in two
pub parts : (p q : PlanData) (id : ℕ) → Splits (KeepsWords p) id (Whole q) (Client (fresh_client q)) (Service (fresh_service q))
parts p q id s kept at = ⊎_elim
    (λ (fresh : Fresh p s).
    let who = first_seat p q id (subst (λ (l : List View). get_elem? l id ≡ some (Whole q)) fresh.alone at) in
    let now : set s.views id (Client (fresh_client q)) ++ Service (fresh_service q) ∷ [] ≡ Client (fresh_client p) ∷ Service (fresh_service p) ∷ [] = λ i. set (fresh.alone i) (who.0 i) (Client (fresh_client (who.1 i))) ++ Service (fresh_service (who.1 i)) ∷ [] in
    inr (subst (λ (l : List View). InUse p (record { words = s.words; homes = s.homes; views = l })) (sym now) (starts p s fresh.zeros)))
    (λ (run : InUse p s). absurd (no_whole p q s run id at))
    kept

-- the table as it is made
pub begins : (p : PlanData) (ws : List ℕ) → ws ≡ replicate (3 + places_of p.areas) 0 → KeepsWords p (record { words = ws; homes = []; views = Whole p ∷ [] })
begins p ws is = inl (record { zeros = is; alone = refl })

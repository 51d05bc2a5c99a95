-- A stream is lost in a legal history exactly where it ended so.
use Rattle.verify_input.proofs.Names.{◌≡◌, ℕ, ◌+◌, eqb, Bool, true, false, not, cond, ◌&&◌, List, [], ◌∷◌, map, refl, sym, ap, subst, ◌∙◌, eqb-true, eq-eqb, PlansData, plan_of, Event, Order, Step, Lost, Close, End, world, stream_in, asked_by, deed, deed_asked, standing_of, drawn, Obeys, IsLegal, end_of, Dump, dumps_due, is_lost}
use Rattle.stream_state.specs.declared.effect.Effect.{Effect}
use Rattle.stream_state.specs.declared.effect.Effect.TheVariants.{Nothing, Token, Release, Wait, WaitName, Pixels, Results}
use Rattle.sync_core.specs.Standing.{Standing}
use Rattle.sync_core.specs.Events as sync
use Rattle.gpu_journal.specs.declared.event.Event.TheVariants.{Finish}
use Rattle.gpu_journal.proofs.Worlds.{sync_none}
use Rattle.serial_laws.proofs.Others.{moved_by, standing_own, standing_other}

-- whether a stream is lost after an event of it
abbrev lost_after : Event → Bool → Bool
lost_after (Lost s why words) was = true
lost_after (Close s) was = false
lost_after e was = was

-- an open stream is not lost
open_kept : (a b : Bool) → (not a && not b) ≡ true → a ≡ false
open_kept true b e = absurd (cc)
open_kept false b e = refl

lost_own : (p : PlansData) (h : List Event) (e : Event) → Obeys p h e
    → (moved_by (deed p e (world p h)) (drawn p h + 1) (standing_of p h (stream_in e))).lost ≡ lost_after e (standing_of p h (stream_in e)).lost
lost_own p h (Order s n c) o = refl
lost_own p h (Step s words) o = by (asked_by p s words (world p h))
  where
    by : (effect : Effect) → (moved_by (deed_asked p effect) (drawn p h + 1) (standing_of p h s)).lost ≡ (standing_of p h s).lost
    by Nothing = refl
    by (Token token) = refl
    by (Pixels op) = refl
    by (Results write) = refl
    by (Release r) = refl
    by (Wait t r) = refl
    by (WaitName name r) = refl
lost_own p h (Finish s n) o = refl
lost_own p h (Lost s why words) o = refl
lost_own p h (Close s) o = open_kept (standing_of p h s).lost (standing_of p h s).closed o.rule_12.still_open.stays

-- what an event says of how its own stream ended, and of others
end_own : (e : Event) (h : List Event) → is_lost (end_of (e ∷ h) (stream_in e)) ≡ lost_after e (is_lost (end_of h (stream_in e)))
end_own (Order s n c) h = refl
end_own (Step s words) h = refl
end_own (Finish s n) h = refl
end_own (Lost s why words) h = let same : eqb s s ≡ true = eq-eqb s s refl in rw same refl
end_own (Close s) h = let same : eqb s s ≡ true = eq-eqb s s refl in rw same refl

end_other : (e : Event) (h : List Event) (s : ℕ) → eqb (stream_in e) s ≡ false → end_of (e ∷ h) s ≡ end_of h s
end_other (Order t n c) h s q = refl
end_other (Step t words) h s q = refl
end_other (Finish t n) h s q = refl
end_other (Lost t why words) h s q = rw q refl
end_other (Close t) h s q = rw q refl

pub lost_end : (p : PlansData) (h : List Event) (s : ℕ) → IsLegal p h → (standing_of p h s).lost ≡ is_lost (end_of h s)
lost_end p [] s legal = ap (λ (g : List sync.SyncEvent). (sync.standing g s).lost) (sync_none p)
lost_end p (e ∷ h) s legal = by (λ t. lost_end p h t legal.1) (eqb (stream_in e) s) refl
  where
    own : (standing_of p h (stream_in e)).lost ≡ is_lost (end_of h (stream_in e)) → (standing_of p (e ∷ h) (stream_in e)).lost ≡ is_lost (end_of (e ∷ h) (stream_in e))
    own was = ap (λ (x : Standing). x.lost) (standing_own p e h) ∙ lost_own p h e legal.0 ∙ ap (lost_after e) was ∙ sym (end_own e h)

    by : ((t : ℕ) → (standing_of p h t).lost ≡ is_lost (end_of h t)) → (b : Bool) → eqb (stream_in e) s ≡ b → (standing_of p (e ∷ h) s).lost ≡ is_lost (end_of (e ∷ h) s)
    by was true q = subst (λ t. (standing_of p (e ∷ h) t).lost ≡ is_lost (end_of (e ∷ h) t)) (eqb-true (stream_in e) s q) (own (was (stream_in e)))
    by was false q = ap (λ (x : Standing). x.lost) (standing_other p e h s q) ∙ was s ∙ ap is_lost (sym (end_other e h s q))

-- ---- the dumps that are due of a stream

pub dumps_lost : (p : PlansData) (h : List Event) (s : ℕ) (end : End) → IsLegal p h → end ≡ end_of h s → is_lost end ≡ true → dumps_due p h s ≡ []
dumps_lost p h s end legal at lost =
    let test : (standing_of p h s).lost ≡ true = lost_end p h s legal ∙ ap is_lost (sym at) ∙ lost in
    ap (λ (b : Bool). map (λ dump. Dump s dump) (cond b [] (plan_of p s).dumps)) test

pub dumps_told : (p : PlansData) (h : List Event) (s : ℕ) (end : End) → IsLegal p h → end ≡ end_of h s → is_lost end ≡ false → dumps_due p h s ≡ map (λ dump. Dump s dump) (plan_of p s).dumps
dumps_told p h s end legal at kept =
    let test : (standing_of p h s).lost ≡ false = lost_end p h s legal ∙ ap is_lost (sym at) ∙ kept in
    ap (λ (b : Bool). map (λ dump. Dump s dump) (cond b [] (plan_of p s).dumps)) test

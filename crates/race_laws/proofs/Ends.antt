-- How a stream ended follows from its works and its plan.
use Rattle.std.proofs.Common.{◌≡◌, ℕ, zero, suc, ◌+◌, eqb, Bool, true, false, not, ◌&&◌, cond, Some, List, [], ◌∷◌, length, refl, sym, ap, subst, ◌∙◌}
use Rattle.std.specs.Prelude.{slice_get}
use Rattle.std.specs.List.{All, list_all}
use Rattle.std.proofs.lemmas.Bool.{eqb-true, eq-eqb, and_right}
use Rattle.std.proofs.lemmas.List.Elements.{All-head, All-tail}
use Rattle.gpu_plan.specs.declared.plan.Action.{Action}
use Rattle.gpu_plan.specs.declared.plan.Action.TheVariants as actions
use Rattle.gpu_plan.specs.Plans.{PlansData, plan_of, stays_open, is_closed}
use Rattle.sync_core.specs.Standing.{Standing, is_open, IsKnown}
use Rattle.sync_core.specs.Events as sync
use Rattle.gpu_journal.specs.declared.event.Event.{Event}
use Rattle.gpu_journal.specs.declared.event.Event.TheVariants.{Order, Step, Finish, Lost, Close}
use Rattle.gpu_journal.specs.declared.event.Why.TheVariants.{Error, Memory}
use Rattle.gpu_journal.specs.declared.end.End.{End}
use Rattle.gpu_journal.specs.declared.end.End.TheVariants as ends
use Rattle.gpu_journal.specs.World.{world, stream_in, asked_by}
use Rattle.gpu_journal.specs.Waits.{deed, standing_of, drawn}
use Rattle.gpu_journal.specs.Ended.{end_of}
use Rattle.gpu_journal.specs.Facts.{reach}
use Rattle.gpu_journal.specs.Legal.{Obeys, IsLegal}
use Rattle.gpu_journal.proofs.Worlds.{sync_none}
use Rattle.serial_laws.specs.Going.{is_memory_loss}
use Rattle.serial_laws.proofs.Others.{moved_by, standing_own, standing_other}
use Rattle.race_laws.specs.Works.{Work, Executed, Finished, Refused, work_of, with_work, works}
use Rattle.race_laws.specs.Laws.{IsWhole}
use Rattle.race_laws.proofs.Ending.{was_open, open_parts, asked_keeps, works_own, works_other, IsRefused, refused_lost}

-- the end that the last work makes, where it found an error
abbrev EndsBy : List Work → End → Type 0
EndsBy [] end = ⊥
EndsBy (Executed words ∷ ws) end = ⊥
EndsBy (Finished ∷ ws) end = ⊥
EndsBy (Refused error words ∷ ws) end = end ≡ ends.Lost (Error error)

-- a lost stream ended by the error that it found, a closed one has a Close in its plan, and an open one is done
record EndFits (list : List Action) (ws : List Work) (x : Standing) (end : End) : Type 0 where
  lost : x.lost ≡ true → EndsBy ws end
  closed : x.closed ≡ true → (end ≡ ends.Closed) × (is_closed list ≡ true)
  none : is_open x ≡ true → end ≡ ends.Done

EndFitsAt : PlansData → List Event → ℕ → Type 0
EndFitsAt p h s = EndFits (plan_of p s).actions (works h s) (standing_of p h s) (end_of h s)

-- what an event makes of the end of its stream
abbrev end_after : Event → End → End
end_after (Order t n c) end = end
end_after (Step t words) end = end
end_after (Finish t n) end = end
end_after (Lost t why words) end = ends.Lost why
end_after (Close t) end = ends.Closed

end_own : (e : Event) (h : List Event) → end_of (e ∷ h) (stream_in e) ≡ end_after e (end_of h (stream_in e))
end_own (Order t n c) h = refl
end_own (Step t words) h = refl
end_own (Finish t n) h = refl
end_own (Lost t why words) h = ap (λ (b : Bool). cond b (ends.Lost why) (end_of h t)) (eq-eqb t t refl)
end_own (Close t) h = ap (λ (b : Bool). cond b ends.Closed (end_of h t)) (eq-eqb t t refl)

end_other : (e : Event) (h : List Event) (s : ℕ) → eqb (stream_in e) s ≡ false → end_of (e ∷ h) s ≡ end_of h s
end_other (Order t n c) h s off = refl
end_other (Step t words) h s off = refl
end_other (Finish t n) h s off = refl
end_other (Lost t why words) h s off = ap (λ (b : Bool). cond b (ends.Lost why) (end_of h s)) off
end_other (Close t) h s off = ap (λ (b : Bool). cond b ends.Closed (end_of h s)) off

-- an open stream that stays open
stays_so : (list : List Action) (ws more : List Work) (x y : Standing) (end : End) → is_open x ≡ true → y.lost ≡ x.lost → y.closed ≡ x.closed → EndFits list ws x end → EndFits list more y end
stays_so list ws more x y end was lost closed fits =
    let parts = open_parts x was in
    record {
      lost = λ q. let off = lost ∙ parts.0 in absurd (cc);
      closed = λ q. let off = closed ∙ parts.1 in absurd (cc);
      none = λ q. fits.none was;
    }

pub closes_there : (xs : List Action) (k : ℕ) → slice_get xs k ≡ Some actions.Close → is_closed xs ≡ true
closes_there [] k e = absurd (cc)
closes_there (x ∷ xs) zero e = let is : x ≡ actions.Close = cc in ap (λ (a : Action). is_closed (a ∷ xs)) is
closes_there (x ∷ xs) (suc k) e = ap not (and_right (stays_open x) (list_all stays_open xs) (off (list_all stays_open xs) (closes_there xs k e)))
  where
    off : (b : Bool) → not b ≡ true → b ≡ false
    off true q = absurd (cc)
    off false q = refl

own_fits : (p : PlansData) (e : Event) (h : List Event) (n : ℕ) → is_memory_loss e ≡ false → Obeys p h e → (ws : List Work) (x : Standing) (end : End) → is_open x ≡ true → EndFits (plan_of p (stream_in e)).actions ws x end
    → EndFits (plan_of p (stream_in e)).actions (with_work (work_of e) ws) (moved_by (deed p e (world p h)) n x) (end_after e end)
own_fits p (Order t m c) h n kept o ws x end was fits = stays_so (plan_of p t).actions ws ws x (moved_by (deed p (Order t m c) (world p h)) n x) end was refl refl fits
own_fits p (Step t words) h n kept o ws x end was fits =
    let keeps = asked_keeps p (asked_by p t words (world p h)) n x in
    stays_so (plan_of p t).actions ws (Executed words ∷ ws) x (moved_by (deed p (Step t words) (world p h)) n x) end was keeps.0 keeps.1 fits
own_fits p (Finish t m) h n kept o ws x end was fits = stays_so (plan_of p t).actions ws (Finished ∷ ws) x (moved_by (deed p (Finish t m) (world p h)) n x) end was refl refl fits
own_fits p (Lost t (Error error) words) h n kept o ws x end was fits = record {
  lost = λ q. refl;
  closed = λ q. let off = (open_parts x was).1 in absurd (cc);
  none = λ q. absurd (cc);
}
own_fits p (Lost t Memory words) h n kept o ws x end was fits = absurd (cc)
own_fits p (Close t) h n kept o ws x end was fits = record {
  lost = λ q. let off = (open_parts x was).0 in absurd (cc);
  closed = λ q. (refl, closes_there (plan_of p t).actions (reach p h t) o.rule_12.reached);
  none = λ q. let off = (open_parts (record x { closed = true; left = [] }) q).1 in absurd (cc);
}

end_fits : (p : PlansData) (h : List Event) (s : ℕ) → IsLegal p h → All (λ event. is_memory_loss event ≡ false) h → EndFitsAt p h s
unfolding EndFitsAt
end_fits p [] s legal kept = record {
  lost = λ q. let off : (standing_of p [] s).lost ≡ false = ap (λ (g : List sync.SyncEvent). (sync.standing g s).lost) (sync_none p) in absurd (cc);
  closed = λ q. let off : (standing_of p [] s).closed ≡ false = ap (λ (g : List sync.SyncEvent). (sync.standing g s).closed) (sync_none p) in absurd (cc);
  none = λ q. refl;
}
end_fits p (e ∷ h) s legal kept = by (λ t. end_fits p h t legal.1 (All-tail (λ event. is_memory_loss event ≡ false) e h kept)) (eqb (stream_in e) s) refl
  where
    own : EndFitsAt p h (stream_in e) → EndFitsAt p (e ∷ h) (stream_in e)
    own fits =
        let t = stream_in e in
        let now = own_fits p e h (drawn p h + 1) (All-head (λ event. is_memory_loss event ≡ false) e h kept) legal.0 (works h t) (standing_of p h t) (end_of h t) (was_open p h e legal.1 legal.0) fits in
        subst (λ (ws : List Work). EndFits (plan_of p t).actions ws (standing_of p (e ∷ h) t) (end_of (e ∷ h) t)) (sym (works_own e h))
        (subst (λ (x : Standing). EndFits (plan_of p t).actions (with_work (work_of e) (works h t)) x (end_of (e ∷ h) t)) (sym (standing_own p e h))
        (subst (EndFits (plan_of p t).actions (with_work (work_of e) (works h t)) (moved_by (deed p e (world p h)) (drawn p h + 1) (standing_of p h t))) (sym (end_own e h)) now))

    by : ((t : ℕ) → EndFitsAt p h t) → (b : Bool) → eqb (stream_in e) s ≡ b → EndFitsAt p (e ∷ h) s
    by fits true q = subst (EndFitsAt p (e ∷ h)) (eqb-true (stream_in e) s q) (own (fits (stream_in e)))
    by fits false q =
        subst (λ (ws : List Work). EndFits (plan_of p s).actions ws (standing_of p (e ∷ h) s) (end_of (e ∷ h) s)) (sym (works_other e h s q))
        (subst (λ (x : Standing). EndFits (plan_of p s).actions (works h s) x (end_of (e ∷ h) s)) (sym (standing_other p e h s q))
        (subst (EndFits (plan_of p s).actions (works h s) (standing_of p h s)) (sym (end_other e h s q)) (fits s)))

-- ---- in a whole history

-- how a stream ended, by its works and by whether its client closes it
abbrev end_by : List Work → Bool → End
end_by (Refused error words ∷ ws) closes = ends.Lost (Error error)
end_by (Executed words ∷ ws) closes = cond closes ends.Closed ends.Done
end_by (Finished ∷ ws) closes = cond closes ends.Closed ends.Done
end_by [] closes = cond closes ends.Closed ends.Done

end_by_error : (ws : List Work) (end : End) (closes : Bool) → EndsBy ws end → end ≡ end_by ws closes
end_by_error [] end closes is = absurd is
end_by_error (Executed words ∷ ws) end closes is = absurd is
end_by_error (Finished ∷ ws) end closes is = absurd is
end_by_error (Refused error words ∷ ws) end closes is = is

end_by_none : (ws : List Work) (closes : Bool) → (IsRefused ws → ⊥) → end_by ws closes ≡ cond closes ends.Closed ends.Done
end_by_none [] closes none = refl
end_by_none (Executed words ∷ ws) closes none = refl
end_by_none (Finished ∷ ws) closes none = refl
end_by_none (Refused error words ∷ ws) closes none = absurd (none tt)

pub end_is : (p : PlansData) (h : List Event) (s : ℕ) → IsWhole p h → IsKnown (length p.plans) s → end_of h s ≡ end_by (works h s) (is_closed (plan_of p s).actions)
unfolding EndFitsAt
end_is p h s whole isknown = by (standing_of p h s).lost refl (standing_of p h s).closed refl
  where
    fits : EndFitsAt p h s
    fits = end_fits p h s whole.legal whole.kept

    here : (standing_of p h s).lost ≡ false → (c : Bool) → is_closed (plan_of p s).actions ≡ c → end_by (works h s) (is_closed (plan_of p s).actions) ≡ cond c ends.Closed ends.Done
    here off c is =
        end_by_none (works h s) (is_closed (plan_of p s).actions) (λ r. let on = refused_lost p h s r in absurd (cc))
        ∙ ap (λ (b : Bool). cond b ends.Closed ends.Done) is

    by : (a : Bool) → (standing_of p h s).lost ≡ a → (b : Bool) → (standing_of p h s).closed ≡ b → end_of h s ≡ end_by (works h s) (is_closed (plan_of p s).actions)
    by true lost b closed = end_by_error (works h s) (end_of h s) (is_closed (plan_of p s).actions) (fits.lost lost)
    by false lost true closed = let q = fits.closed closed in q.0 ∙ sym (here lost true q.1)
    by false lost false closed =
        let stays : is_open (standing_of p h s) ≡ true = λ i. not (lost i) && not (closed i) in
        fits.none stays ∙ sym (here lost false (whole.complete s record { known = isknown; stays = stays }).stays_open)

-- so it is the same in every whole history with the same works
pub end_same : (p : PlansData) (h g : List Event) (s : ℕ) → IsWhole p h → IsWhole p g → works g s ≡ works h s → IsKnown (length p.plans) s → end_of g s ≡ end_of h s
end_same p h g s whole also same isknown =
    end_is p g s also isknown ∙ ap (λ (ws : List Work). end_by ws (is_closed (plan_of p s).actions)) same ∙ sym (end_is p h s whole isknown)

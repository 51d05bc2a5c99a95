-- What the steps of a batch, and what is done after them, make of a hall.
use Rattle.std.proofs.Common.{◌≡◌, ◌≢◌, ℕ, Bool, true, false, not, ◌&&◌, List, [], ◌∷◌, ◌++◌, length, refl, sym, ap, subst, ◌∙◌}
use Rattle.std.specs.Prelude.{Err}
use Rattle.gpu_cmd.specs.declared.error.CmdError.{CmdError}
use Rattle.gpu_plan.specs.Plans.{PlansData}
use Rattle.gpu_fetch.specs.Side.{SideData}
use Rattle.sync_core.specs.Standing.{Standing, is_open}
use Rattle.gpu_journal.specs.declared.event.Event.{Event}
use Rattle.gpu_journal.specs.declared.event.Event.TheVariants as event
use Rattle.gpu_journal.specs.declared.event.Why.TheVariants.{Error, Memory}
use Rattle.gpu_journal.specs.Waits.{standing_of}
use Rattle.gpu_journal.specs.Facts.{verdict_at}
use Rattle.serial_laws.proofs.Passed.{is_order}
use Rattle.serial_laws.proofs.Going.{lost_ends}
use Rattle.serial_laws.proofs.Runs.{step_open}
use Rattle.house_core.specs.Desks.{RunData}
use Rattle.gpu_house.specs.declared.answers.Next.{Next}
use Rattle.gpu_house.specs.declared.answers.Next.TheVariants as next
use Rattle.gpu_house.specs.House.{OutData}
use Rattle.gpu_house.specs.Committing.{journal_stepped, Stage, IsStill, AreDone, HaveGone, GoneInPart, LosesAt, Commits, IsOverBy, is_executed}
use Rattle.gpu_hall.specs.Commits.{Return, WasOver, Waits, Ended, Invalid, Wanted, HasSteps, CameHome}

lost_over : (x : Standing) → x.lost ≡ true → is_open x ≡ false
lost_over x e = ap (λ (b : Bool). not b && not x.closed) e

closed_over : (x : Standing) → x.lost ≡ false → x.closed ≡ true → is_open x ≡ false
closed_over x e f = ap (λ (b : Bool). not b && not x.closed) e ∙ ap (λ (b : Bool). true && not b) f

is_over : (p : PlansData) (h : List Event) (s : ℕ) (answer : Next) → IsOverBy p h s answer → is_open (standing_of p h s) ≡ false
is_over p h s next.Lost over = lost_over (standing_of p h s) over
is_over p h s next.Closed over = closed_over (standing_of p h s) over.0 over.1
is_over p h s next.More over = absurd over
is_over p h s next.Paused over = absurd over
is_over p h s next.FlushEnd over = absurd over
is_over p h s (next.Invalid error) over = absurd over

-- steps leave a stream open
open_steps : (p : PlansData) (s : ℕ) (ws : List (List (ℕ × ℕ))) (h : List Event) → is_open (standing_of p (journal_stepped s ws h) s) ≡ is_open (standing_of p h s)
open_steps p s [] h = refl
open_steps p s (words ∷ ws) h = open_steps p s ws (event.Step s words ∷ h) ∙ step_open p h s words

-- no step was made, as out of memory
pub lost_first : (p : PlansData) (h g : List Event) (s n : ℕ) (members : List (List (ℕ × ℕ))) (o : Bool) → is_open (standing_of p h s) ≡ o → (o ≡ true → g ≡ event.Lost s Memory [] ∷ h) → (o ≡ false → g ≡ h)
    → (how : Return) × CameHome p h g s n members how
lost_first p h g s n members true is lost over = (Wanted, record { first = []; rest = members; those = refl; before = record { still_open = is; valid = tt; waits = refl; steps = refl }; loss = lost refl })
lost_first p h g s n members false is lost over = (WasOver, record { over = is; same = over refl })

-- what each event keeps that is no order
abbrev pub IsKept : (List Event → Type 0) → Type 0
IsKept F = (e : Event) (h : List Event) → is_order e ≡ false → F h → F (e ∷ h)

-- is kept by steps
kept_steps : (F : List Event → Type 0) → IsKept F → (s : ℕ) (ws : List (List (ℕ × ℕ))) (h : List Event) → F h → F (journal_stepped s ws h)
kept_steps F keeps s [] h f = f
kept_steps F keeps s (words ∷ ws) h f = kept_steps F keeps s ws (event.Step s words ∷ h) (keeps (event.Step s words) h refl f)

module _ {Side Note Results : Type 0} (side : Side → SideData) (mark : Note → ℕ) (p : PlansData) (old : Stage Side Note Results) where
  abbrev s : ℕ
  s = old.out.run.stream

  abbrev h : List Event
  h = old.house.core.past

  -- ---- the first members of a batch

  abbrev Gone : Stage Side Note Results → List (List (ℕ × ℕ)) → Type 0
  Gone mid ws = HaveGone side mark p old mid ws

  past_gone : (mid : Stage Side Note Results) (ws : List (List (ℕ × ℕ))) → Gone mid ws → mid.house.core.past ≡ journal_stepped s ws h
  past_gone mid [] still = still.house.past
  past_gone mid (w ∷ ws) done = done.events

  stream_gone : (mid : Stage Side Note Results) (ws : List (List (ℕ × ℕ))) → Gone mid ws → mid.out.run.stream ≡ s
  stream_gone mid [] still = ap (λ (o : OutData Side Note). o.run.stream) still.out
  stream_gone mid (w ∷ ws) done = done.moved.stream

  -- the facts of the stream by the journal after them
  at_gone : (F : List Event → ℕ → Type 0) (mid : Stage Side Note Results) (ws : List (List (ℕ × ℕ))) → Gone mid ws → F mid.house.core.past mid.out.run.stream → F (journal_stepped s ws h) s
  at_gone F mid ws gone f = subst (λ (g : List Event). F g s) (past_gone mid ws gone) (subst (F mid.house.core.past) (stream_gone mid ws gone) f)

  steps_gone : (mid : Stage Side Note Results) (ws : List (List (ℕ × ℕ))) → Gone mid ws → is_open (standing_of p (journal_stepped s ws h) s) ≡ true → HasSteps p h (journal_stepped s ws h) s ws false
  steps_gone mid [] still open' = record { still_open = open'; valid = tt; waits = refl; steps = refl }
  steps_gone mid (w ∷ ws) done open' = record { still_open = done.still_open; valid = done.valid; waits = sym done.kept; steps = refl }

  -- ---- a batch that was answered

  module _ (new : Stage Side Note Results) (members : List (List (ℕ × ℕ))) where
    abbrev Answered : Next → Type 0
    Answered answer = Commits side mark p old new members answer

    -- what each event keeps that is no order is kept by a batch
    module _ (F : List Event → Type 0) (keeps : IsKept F) where
      kept_gone : (mid : Stage Side Note Results) (ws : List (List (ℕ × ℕ))) → Gone mid ws → F h → F mid.house.core.past
      kept_gone mid ws gone f = subst F (sym (past_gone mid ws gone)) (kept_steps F keeps s ws h f)

      kept_done : (paused : Bool) → AreDone side mark p old new members paused → F h → F new.house.core.past
      kept_done paused done f = subst F (sym done.events) (kept_steps F keeps s members h f)

      pub kept_committed : (answer : Next) → Answered answer → F h → F new.house.core.past
      kept_committed next.More done f = kept_done false done f
      kept_committed next.Paused done f = kept_done true done f
      kept_committed next.FlushEnd done f = kept_done false done f
      kept_committed (next.Invalid error) lost f = subst F (sym lost.refused.event)
          (keeps (event.Lost lost.between.out.run.stream (Error error) lost.words) lost.between.house.core.past refl (kept_gone lost.between lost.first lost.gone f))
      kept_committed next.Lost over f = subst F (sym over.still.house.past) f
      kept_committed next.Closed over f = subst F (sym over.still.house.past) f

      pub kept_part : GoneInPart side mark p old new members → F h → F new.house.core.past
      kept_part part f = kept_gone new part.first part.gone f

    -- the run may come back: where its stream is open still, it has fetched no more than its facts say
    abbrev OpenStill : Type 0
    OpenStill = is_open (standing_of p new.house.core.past new.out.run.stream) ≡ true

    over_still : IsStill old new → is_open (standing_of p h s) ≡ false → OpenStill → ⊥
    over_still still over o =
        let same : is_open (standing_of p new.house.core.past new.out.run.stream) ≡ false = ap (λ (g : List Event). is_open (standing_of p g new.out.run.stream)) still.house.past
        ∙ ap (λ (o : OutData Side Note). is_open (standing_of p h o.run.stream)) still.out ∙ over in
        cc

    over_lost : (error : CmdError) → LosesAt side mark p old new members error → OpenStill → ⊥
    over_lost error lost o =
        let t = lost.between.out.run.stream in
        let same : is_open (standing_of p new.house.core.past new.out.run.stream) ≡ false = ap (λ (g : List Event). is_open (standing_of p g new.out.run.stream)) lost.refused.event
        ∙ ap (λ (r : RunData). is_open (standing_of p (event.Lost t (Error error) lost.words ∷ lost.between.house.core.past) r.stream)) lost.refused.run
        ∙ lost_ends p lost.between.house.core.past t (Error error) lost.words in
        cc

    abbrev Fetched : Type 0
    Fetched = length (side new.out.side).fetched ≡ new.out.run.facts.fetched

    pub may_come_back : (answer : Next) → Answered answer → (is_executed answer ≡ true → Fetched) → OpenStill → Fetched
    may_come_back next.More done ready o = ready refl
    may_come_back next.Paused done ready o = ready refl
    may_come_back next.FlushEnd done ready o = ready refl
    may_come_back (next.Invalid error) lost ready o = absurd (over_lost error lost o)
    may_come_back next.Lost over ready o = absurd (over_still over.still (is_over p h s next.Lost over.is_over) o)
    may_come_back next.Closed over ready o = absurd (over_still over.still (is_over p h s next.Closed over.is_over) o)

    -- how it came home
    abbrev Home : List Event → Type 0
    Home g = (how : Return) × CameHome p h g s old.out.run.order members how

    pub came_back : (answer : Next) (g : List Event) → answer ≢ next.More → answer ≢ next.FlushEnd → g ≡ new.house.core.past → Answered answer → Home g
    came_back next.More g more end same done = absurd (more refl)
    came_back next.FlushEnd g more end same done = absurd (end refl)
    came_back next.Paused g more end same done = (Waits, record { still_open = done.still_open; valid = done.valid; waits = sym done.kept; steps = same ∙ done.events })
    came_back (next.Invalid error) g more end same lost =
        let mid = lost.between in
        let gone = lost.gone in (
          Invalid error,
          record {
            first = lost.first;
            words = lost.words;
            rest = lost.rest;
            those = lost.those;
            before = steps_gone mid lost.first gone (at_gone (λ g t. is_open (standing_of p g t) ≡ true) mid lost.first gone lost.refused.still_open);
            verdict = at_gone (λ g t. verdict_at p g t lost.words ≡ Err error) mid lost.first gone lost.refused.verdict;
            loss = same ∙ at_gone (λ g t. new.house.core.past ≡ event.Lost t (Error error) lost.words ∷ g) mid lost.first gone lost.refused.event;
          },
        )
    came_back next.Lost g more end same over = (WasOver, record { over = is_over p h s next.Lost over.is_over; same = same ∙ over.still.house.past })
    came_back next.Closed g more end same over = (WasOver, record { over = is_over p h s next.Closed over.is_over; same = same ∙ over.still.house.past })

    pub was_ended : (g : List Event) → Answered next.FlushEnd → (OpenStill → g ≡ event.Finish new.out.run.stream new.out.run.order ∷ new.house.core.past) → Home g
    was_ended g done finished =
        let still : OpenStill = ap (λ (t : ℕ). is_open (standing_of p new.house.core.past t)) done.moved.stream
        ∙ ap (λ (g : List Event). is_open (standing_of p g s)) done.events ∙ open_steps p s members h ∙ done.still_open in (
          Ended,
          record {
            all = record { still_open = done.still_open; valid = done.valid; waits = sym done.kept; steps = refl };
            finish = finished still ∙ ap (λ (t : ℕ). event.Finish t new.out.run.order ∷ new.house.core.past) done.moved.stream
                ∙ ap (λ (n : ℕ). event.Finish s n ∷ new.house.core.past) done.moved.order ∙ ap (λ (g : List Event). event.Finish s old.out.run.order ∷ g) done.events;
          },
        )

    -- memory ran out after the steps of the first members
    pub was_wanted : (g : List Event) → GoneInPart side mark p old new members → (OpenStill → g ≡ event.Lost new.out.run.stream Memory [] ∷ new.house.core.past)
        → (is_open (standing_of p new.house.core.past new.out.run.stream) ≡ false → g ≡ new.house.core.past) → Home g
    was_wanted g part lost over = by part.first part.gone part.those (is_open (standing_of p (journal_stepped s part.first h) s)) refl
      where
        by : (ws : List (List (ℕ × ℕ))) → Gone new ws → members ≡ ws ++ part.rest → (b : Bool) → is_open (standing_of p (journal_stepped s ws h) s) ≡ b → Home g
        by ws gone those true o =
            let still : OpenStill = ap (λ (t : ℕ). is_open (standing_of p new.house.core.past t)) (stream_gone new ws gone) ∙ ap (λ (g : List Event). is_open (standing_of p g s)) (past_gone new ws gone) ∙ o in (
              Wanted,
              record {
                first = ws;
                rest = part.rest;
                those = those;
                before = steps_gone new ws gone o;
                loss = lost still ∙ ap (λ (t : ℕ). event.Lost t Memory [] ∷ new.house.core.past) (stream_gone new ws gone) ∙ ap (λ (g : List Event). event.Lost s Memory [] ∷ g) (past_gone new ws gone);
              },
            )
        by [] still those false o =
            let same : is_open (standing_of p new.house.core.past new.out.run.stream) ≡ false = ap (λ (t : ℕ). is_open (standing_of p new.house.core.past t)) (stream_gone new [] still) ∙ ap (λ (g : List Event). is_open (standing_of p g s)) still.house.past ∙ o in
            (WasOver, record { over = o; same = over same ∙ still.house.past })
        by (w ∷ ws) done those false o = absurd (let open' : is_open (standing_of p (journal_stepped s (w ∷ ws) h) s) ≡ true = open_steps p s (w ∷ ws) h ∙ done.still_open in cc)

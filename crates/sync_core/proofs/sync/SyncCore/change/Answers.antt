use Rattle.std.proofs.Common.{◌≡◌, ◌-◌, List, ◌∷◌, length, set, sym, ap, subst, ◌∙◌, arith}
use Rattle.std.specs.Prelude.{filter}
use Rattle.sync_core.specs.declared.which.Which.{Which}
use Rattle.sync_core.specs.Queues.{takes, leaves}
use Rattle.sync_core.specs.Standing.{at, IsKnown}
use Rattle.sync_core.specs.Events.{SyncEvent, moved}
use Rattle.sync_core.specs.Changes.{MayChange, deed_of, which_end}
use Rattle.sync_core.specs.Core.{Core, StandsFor}
use Rattle.sync_core.proofs.Stands.{change_stands, at_read}
use Rattle.sync_core.proofs.sync.SyncCore.change.Goals as goal
use Rattle.sync_core.proofs.sync.SyncCore.change.Goals.{After-record_ends}

-- once the waits that end are recorded
module _ (c : goal.After-record_ends) where
  abbrev old : Core
  old = record { drawn = c.self.inside.drawn; streams = c.self.inside.streams.items; pending = c.self.inside.pending; endings = c.self.inside.endings.items; room = c.self.inside.room }

  stands : (h : List SyncEvent) → StandsFor old h
      → StandsFor record { drawn = old.drawn; streams = set old.streams (c.args.s - 1) c.change.new.self; pending = c.take.new.self; endings = c.record_ends.new.endings.items; room = old.room } ((c.args.s, deed_of c.args.change) ∷ h)
  stands h st =
      let s = c.args.s in
      let change = c.args.change in
      let now = c.change.new.self in
      let known : IsKnown (length old.streams) s = subst (λ (k : Core). IsKnown (length k.streams) s) (sym c.self.view_is) c.requires.known in
      let may : MayChange old s change = subst (λ (k : Core). MayChange k s change) (sym c.self.view_is) c.requires.may in
      let read : c.index_mut-stream.result.now ≡ at old.streams s = at_read old.streams s c.index_mut-stream.result.now known c.index_mut-stream.ensures.value in
      let went = c.take.ensures in
      let others = c.drop_by.ensures.others in
      change_stands old h s change now c.take.new.self c.take.new.taken.items c.record_ends.new.endings.items old.room st known may
      (c.change.ensures ∙ ap (moved (deed_of change) 0) read)
      (went.pending ∙ ap (λ (w : Which). filter (leaves w) c.drop_by.new.self) c.which_end-which.ensures ∙ ap (filter (leaves (which_end s change now))) others)
      (went.taken ∙ ap (λ (w : Which). filter (takes w) c.drop_by.new.self) c.which_end-which.ensures ∙ ap (filter (takes (which_end s change now))) others)
      (rw (c.as_slice.ensures.value, c.as_slice-2.ensures.value) at c.record_ends.ensures.endings)

pub returns-clause-stands : goal.returns-clause-stands
returns-clause-stands c = λ h s. stands (goal.at.returns-clause-stands c).After-record_ends h (subst (λ (k : Core). StandsFor k h) (sym c.self.view_is) s)

pub invariant_of-self : goal.invariant_of-self
invariant_of-self c =
    let room = c.self.invariant.0 in
    let fits = c.self.invariant.1 in
    let holds = c.self.invariant.2 in
    let less = c.take.ensures.len in
    let fewer = c.drop_by.ensures.len in
    let same = c.take.ensures.room in
    let more = c.record_ends.ensures.len in
    let stays = c.record_ends.ensures.room in
    let st = c.self.invariant.3 in
    (omega arith, omega arith, omega arith, ((c.args.s, deed_of c.args.change) ∷ st.0, stands (goal.at.invariant_of-self c).After-record_ends st.0 st.1))

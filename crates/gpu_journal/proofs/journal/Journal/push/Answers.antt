use Rattle.std.proofs.Common.{◌∷◌, ap, ◌∙◌}
use Rattle.gpu_journal.specs.Past.{Past, event_words}
use Rattle.gpu_journal.proofs.Keeping.{events_more}
use Rattle.gpu_journal.proofs.journal.Journal.push.Goals as goal

pub returns-clause-events : goal.returns-clause-events
returns-clause-events c =
    let was = c.self.inside in
    events_more was.words.items (event_words c.args.event) c.keep-entry.new.list.items was.entries.items c.push_reserved.new.self.items c.keep-entry.result c.args.event c.keep-entry.ensures.list c.push_reserved.ensures.items c.self.invariant.1 c.keep-entry.ensures.event
    ∙ ap (λ (past : Past). c.args.event ∷ past.events) c.self.view_is

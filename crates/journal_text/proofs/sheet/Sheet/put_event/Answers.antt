use Rattle.std.proofs.Common.{◌≤◌, length, sym, subst, arith}
use Rattle.journal_text.specs.Sheet.{SheetData}
use Rattle.journal_text.specs.Text.{event_words}
use Rattle.journal_text.proofs.Lengths.{length-near}
use Rattle.journal_text.proofs.sheet.Sheet.put_event.Goals as goal

pub put_event-requires : goal.put_event-requires
put_event-requires c =
    let begun : length c.self.inside.bytes.items ≤ c.self.inside.limit = subst (λ (sheet : SheetData). length sheet.bytes ≤ sheet.limit) (sym c.self.view_is) c.requires.room in
    omega (arith, begun, length-near (event_words c.args.event.now) c.requires.near)

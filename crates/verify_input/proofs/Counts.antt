-- A journal has no more events than bytes.
use Rattle.verify_input.proofs.Names.{ℕ, ◌≤◌, List, length, ap, arith, length-map, Event, event_text, IsJournal}
use Rattle.verify_input.proofs.Lines.{told_lines}
use Rattle.verify_input.proofs.Wholes.{few_whole}

pub few_told : (text : List ℕ) (events : List Event) → IsJournal text events → length events ≤ length text
few_told text events is = omega (arith, few_whole text, ap length (told_lines text events is), length-map events event_text)

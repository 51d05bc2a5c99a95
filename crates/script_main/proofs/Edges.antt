-- What the program says to a writer that holds nothing, of the bytes that a reader has.
use Rattle.std.proofs.Common.{◌≡◌, ℕ, Bool, true, false, Option, Some, None, List, [], ◌++◌, sym, ap, ◌∙◌, append-nil}
use Rattle.std.specs.Io.KnownBytes.{Appends, Consumes, IsAtEnd}
use Rattle.script_answers.specs.declared.command.Command.{Command}
use Rattle.script_answers.specs.declared.status.Status.{Status}
use Rattle.script_answers.specs.Says.{reads, most_bytes, Says}
use Rattle.script_answers.specs.Tells.{Takes, HasTold, held}

-- the bytes that were read are all that the reader had
all_read : (text : List ℕ) (left : Option (List ℕ)) (input : List ℕ) → Consumes (Some text) left input → IsAtEnd left → text ≡ input
all_read text None input took end = absurd took
all_read text (Some rest) input took end = took ∙ ap (λ (xs : List ℕ). input ++ xs) end ∙ append-nil input

input_is : (most : ℕ) (b : Bool) (text : List ℕ) (left : Option (List ℕ)) (input : List ℕ) → Takes most b (Some text) left input → held b (Some text) ≡ Some input
input_is most true text left input took = ap Some (all_read text left input took.0.0 took.0.1)
input_is most false text left input took = ap Some (sym took)

-- the bytes that the writer holds are those that were written
all_written : (left : Option (List ℕ)) (said : List ℕ) → Appends (Some []) left said → left ≡ Some said
all_written None said wrote = absurd wrote
all_written (Some bytes) said wrote = ap Some wrote

pub told_at_edges : (words : Option Command) (base : ℕ) (text : List ℕ) (left : Option (List ℕ)) (ending : Status) (written : Option (List ℕ)) → HasTold words base (Some text) left ending (Some []) written
    → (command : Command) × (input : List ℕ) × (said : List ℕ) × (words ≡ Some command) × (held (reads (Some command)) (Some text) ≡ Some input) × Says command base input ending said × (written ≡ Some said)
told_at_edges words base text left ending written told =
    let t = told.told in
    (t.command, t.input, told.text, t.asked, ap (λ (o : Option Command). held (reads o) (Some text)) (sym t.asked) ∙ input_is (most_bytes words) (reads words) text left t.input t.taken, t.said, all_written written told.text told.appended)

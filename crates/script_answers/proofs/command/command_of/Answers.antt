use Rattle.std.proofs.Common.{◌≡◌, ◌≤◌, ℕ, List, [], ◌∷◌, length, map, None, refl, arith}
use Rattle.std.specs.Prelude.{string_bytes}
use Rattle.std.specs.declared.alloc.Global.{Global}
use Rattle.std.proofs.lemmas.List.{length-map}
use Rattle.script_answers.specs.Commands.{command_of}
use Rattle.script_answers.proofs.command.command_of.Goals as goal

-- four words are no command
four_words : (words : List (List ℕ)) → length words ≡ 4 → None ≡ command_of words
four_words [] four = absurd (omega (arith, four))
four_words (a ∷ []) four = absurd (omega (arith, four))
four_words (a ∷ b ∷ []) four = absurd (omega (arith, four))
four_words (a ∷ b ∷ c ∷ []) four = absurd (omega (arith, four))
four_words (a ∷ b ∷ c ∷ d ∷ []) four = refl
four_words (a ∷ b ∷ c ∷ d ∷ e ∷ more) four = absurd (omega (arith, four))

-- nor are more than five
six_words : (words : List (List ℕ)) → 6 ≤ length words → None ≡ command_of words
six_words [] six = absurd (omega (arith, six))
six_words (a ∷ []) six = absurd (omega (arith, six))
six_words (a ∷ b ∷ []) six = absurd (omega (arith, six))
six_words (a ∷ b ∷ c ∷ []) six = absurd (omega (arith, six))
six_words (a ∷ b ∷ c ∷ d ∷ []) six = absurd (omega (arith, six))
six_words (a ∷ b ∷ c ∷ d ∷ e ∷ []) six = absurd (omega (arith, six))
six_words (a ∷ b ∷ c ∷ d ∷ e ∷ f ∷ more) six = refl

pub returns-in_default-2-clause-command : goal.returns-in_default-2-clause-command
returns-in_default-2-clause-command c =
    let words = c.args.words.now in
    let same = length-map words (string_bytes {Z = Global}) in
    let least = c.in_default.len_at_least in
    let below = c.in_default.len_below in
    four_words (map (string_bytes {Z = Global}) words) (omega (arith, same, least, below))

pub returns-in_default-3-clause-command : goal.returns-in_default-3-clause-command
returns-in_default-3-clause-command c =
    let words = c.args.words.now in
    let same = length-map words (string_bytes {Z = Global}) in
    let least = c.in_default.len_at_least in
    six_words (map (string_bytes {Z = Global}) words) (omega (arith, same, least))

use Rattle.std.proofs.Common.{arith}
use Rattle.std.proofs.lemmas.Bool.Decides.{nat_tests}
use Rattle.script_lines.specs.Text.{words_of}
use Rattle.script_lines.proofs.Groups.{pairs_counted, triples_counted}
use Rattle.script_lines.proofs.fences.count_fences.Goals as goal
use Rattle.script_lines.proofs.fences.count_fences.Goals.{then-version-eq2, else-version-eq2}

pub returns-then-count-each-eq0 : goal.returns-then-count-each-eq0
returns-then-count-each-eq0 c =
    let words = words_of c.args.words.rest.now in
    let count = c.count_words-count.ensures in
    let even = c.if-count-each-eq0.true in
    elim c.if-version-eq2.branch [
      | then-version-eq2 w ↦ let version = w.if-version-eq2.true in let each = w.each-is in let groups = triples_counted words in grind (arith, nat_tests)
      | else-version-eq2 w ↦ let version = w.if-version-eq2.false in let each = w.each-is in let groups = pairs_counted words in grind (arith, nat_tests)
    ]

pub returns-else-count-each-eq0 : goal.returns-else-count-each-eq0
returns-else-count-each-eq0 c =
    let words = words_of c.args.words.rest.now in
    let count = c.count_words-count.ensures in
    let off = c.if-count-each-eq0.false in
    elim c.if-version-eq2.branch [
      | then-version-eq2 w ↦ let version = w.if-version-eq2.true in let each = w.each-is in let groups = triples_counted words in grind (arith, nat_tests)
      | else-version-eq2 w ↦ let version = w.if-version-eq2.false in let each = w.each-is in let groups = pairs_counted words in grind (arith, nat_tests)
    ]

use Rattle.verify_input.proofs.Names.{◌<◌, List, map, length, get_or, sym, ap, ◌∙◌, arith, Ending, mark}
use Rattle.std.proofs.lemmas.List.{get_or-map}
use Rattle.verify_input.proofs.Histories.{endings_kept}
use Rattle.verify_input.proofs.sections.HistoryEnded.mark.Goals as goal

pub bounds-endings-index : goal.bounds-endings-index
bounds-endings-index c = omega (arith, c.requires.within, ap length (c.endings.ensures ∙ endings_kept c.args.self.now c.requires.fits))

pub returns : goal.returns
returns c =
    let kept = c.endings.ensures ∙ endings_kept c.args.self.now c.requires.fits in
    let within : c.args.index < length c.endings.result.now = omega (arith, c.requires.within, ap length kept) in
    c.mark.ensures ∙ sym (get_or-map (mark c.args.self.now.base) c.endings.result.now c.args.index _ 0 within)
    ∙ ap (λ (endings : List Ending). get_or (map (mark c.args.self.now.base) endings) c.args.index 0) kept

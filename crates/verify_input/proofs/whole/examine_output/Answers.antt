use Rattle.verify_input.proofs.Names.{◌≡◌, ◌+◌, ◌-◌, ℕ, List, Option, [], length, drop, reverse, refl, inl, sym, subst, ap, ◌∙◌, arith, length-reverse, IsFault, IsFirstBad, whole_lines, IfOk-weaker, before, script_part, heads_due, IsOff, output_part, LacksEvent, FindsAll, FindsWhole, Journal}
use Rattle.verify_input.proofs.Heads.{bad_early}
use Rattle.verify_input.proofs.Counts.{few_told}
use Rattle.verify_input.proofs.Wholes.{few_whole}
use Rattle.verify_input.proofs.Wholly.{headed, head_counted, told_all, begins_at, before_few, found_whole}
use Rattle.verify_input.proofs.whole.examine_output.Goals as goal

pub returns-in-Err-Off : goal.returns-in-Err-Off
returns-in-Err-Off c = λ input stands.
    let bad = (c.in-Err-Off.ensures []).err.off _ _ c.in-Err-Off.field-0-is in
    let line = bad.1 in
    let count = stands.counted in
    inl (c.args.plans.now, whole_lines c.args.text.now, stands.output, bad.0, omega (arith, line, count), subst (IsOff c.args.plans.now [] (heads_due c.args.plans.now) 0 (whole_lines c.args.text.now) bad.0) (sym c.in-Err-Off.what-is) bad.2)

pub cut_at_border-cut-requires : goal.cut_at_border-cut-requires
cut_at_border-cut-requires c = let short = c.take_names.new.rest.short in omega (arith, short)

pub read_journal-requires : goal.read_journal-requires
read_journal-requires c =
    let short = c.take_names.new.rest.short in
    let counted = head_counted (c.in-Ok.ensures []).ok in
    let shorter = c.cut_at_border-cut.ensures.shorter in
    omega (arith, short, counted, shorter)

pub overflow_sub-result : goal.overflow_sub-result
overflow_sub-result c = let counted = head_counted (c.in-Ok.ensures []).ok in omega (arith, counted)

pub overflow_add-result : goal.overflow_add-result
overflow_add-result c =
    let short = c.take_names.new.rest.short in
    let part = c.cut_at_border-cut.result.part.now in
    let fault = subst (IsFault part) c.in-Err-Refused.field-0-is c.in-Err-Refused.ensures.err in
    let line = fault.1 in
    let early = bad_early part fault.0 fault.2 in
    let shorter = c.cut_at_border-cut.ensures.shorter in
    omega (arith, short, line, early, shorter)

pub returns-in-Err-Refused : goal.returns-in-Err-Refused
returns-in-Err-Refused c = λ input stands.
    let taken = (c.in-Ok.ensures []).ok in
    let part = c.cut_at_border-cut.result.part.now in
    let fault = subst (IsFault part) c.in-Err-Refused.field-0-is c.in-Err-Refused.ensures.err in
    let line = fault.1 in
    let counted = head_counted taken in
    let count = stands.counted in
    let from = c.take_names.new.rest.line - 1 in
    let there = subst (λ (o : Option (List (List ℕ))). LacksEvent c.args.plans.now (length (script_part input)) o (from + c.in-Err-Refused.line)) (sym stands.output.there)
    (whole_lines c.take_names.new.rest.text.now, headed taken, fault.0, omega (arith, line, counted, count), subst (λ (lines : List (List ℕ)). IsFirstBad lines fault.0) c.cut_at_border-cut.ensures.cut.front fault.2) in
    (c.args.plans.now, stands.output.script, subst (λ (l : ℕ). LacksEvent c.args.plans.now (length (script_part input)) (output_part input) (from + l)) (sym c.in-Err-Refused.line-is) there)

pub after_part-after-requires : goal.after_part-after-requires
after_part-after-requires c =
    let cut = c.cut_at_border-cut.ensures.cut in
    let few = few_whole c.cut_at_border-cut.result.part.now in
    let lines = cut.count ∙ ap length (sym cut.front) in
    record { part = c.cut_at_border-cut.ensures.shorter; lines = omega (arith, few, lines) }

pub judge_all-requires : goal.judge_all-requires
judge_all-requires c =
    let short = c.take_names.new.rest.short in
    let past = c.in-Ok-read_journal.journal.events in
    let events = few_told c.cut_at_border-cut.result.part.now (reverse past) c.in-Ok-read_journal.ensures.ok in
    let shorter = c.cut_at_border-cut.ensures.shorter in
    omega (arith, short, events, shorter, length-reverse past)

pub returns : goal.returns
returns c = λ input stands.
    let p = c.args.plans.now in
    let taken = (c.in-Ok.ensures []).ok in
    let lines = whole_lines c.take_names.new.rest.text.now in
    let part = c.cut_at_border-cut.result.part.now in
    let cut = c.cut_at_border-cut.ensures.cut in
    let after = c.after_part-after.result in
    let others : whole_lines after.text.now ≡ drop (length (before Journal lines)) lines = ap whole_lines c.after_part-after.ensures.text ∙ cut.left in
    let events = reverse c.in-Ok-read_journal.journal.events in
    let start = c.after_part-after.ensures.line ∙ begins_at taken after.text.now c.args.lines c.cut_at_border-cut.result.lines refl cut.count (omega (arith, before_few Journal lines, cut.count)) others in
    let told = told_all taken part after.text.now events cut.front c.in-Ok-read_journal.ensures.ok others in
    IfOk-weaker c.judge_all.result (λ finding. FindsAll p c.args.base events (whole_lines after.text.now) after.line finding) (FindsWhole c.args.base input)
    (found_whole input c.args.base c.args.lines p (whole_lines c.args.text.now) stands events (whole_lines after.text.now) after.line start told)
    c.judge_all.ensures

use Rattle.verify_input.proofs.Names.{map, reverse, ap, subst, ◌∙◌, arith, range_with_len, length-reverse, end_of, whole_lines, dues, AreDue, IsFirstBadOf, Off}
use Rattle.std.proofs.lemmas.List.{reverse-reverse}
use Rattle.journal_verify.specs.Ruled.{Rules}
use Rattle.journal_verify.specs.declared.ruling.Ruling.{Ruling}
use Rattle.verify_input.proofs.whole.judge_all.Goals as goal

pub take_rest-requires : goal.take_rest-requires
take_rest-requires c =
    let h = c.args.journal.now.events in
    let rules = rw (reverse-reverse h) at (subst (λ (ruling : Ruling). Rules c.args.plans.now (reverse h) ruling) c.in-Whole.is c.in_ok-followed.ensures) in
    let views = c.in_ok-views.ensures in
    record {
      history = record {
        whole = rules.0;
        followed = rules.1;
        ends = c.as_slice.ensures.value ∙ c.in_ok-ends.ensures ∙ ap (λ n. map (end_of h) (range_with_len 1 n)) c.count.ensures.count;
        few = c.requires;
      };
      few = omega (arith, views);
    }

pub returns-in-Ok : goal.returns-in-Ok
returns-in-Ok c =
    let p = c.args.plans.now in
    let h = c.args.journal.now.events in
    let others = whole_lines c.args.rest.text.now in
    let rules = rw (reverse-reverse h) at (subst (λ (ruling : Ruling). Rules p (reverse h) ruling) c.in-Whole.is c.in_ok-followed.ensures) in
    let due = subst (λ n. AreDue p h (dues p c.args.base h n) others) c.in_ok-views.ensures c.in-Ok.ensures.ok in
    rw (reverse-reverse h, length-reverse h) (rules.0, due, c.into_images.ensures ∙ rules.1.follows.shows.drawn, c.count-in-Ok.ensures)

pub returns-in-Err-Off : goal.returns-in-Err-Off
returns-in-Err-Off c =
    let p = c.args.plans.now in
    let h = c.args.journal.now.events in
    let rules = rw (reverse-reverse h) at (subst (λ (ruling : Ruling). Rules p (reverse h) ruling) c.in-Whole.is c.in_ok-followed.ensures) in
    let off = subst (λ n. IsFirstBadOf p h (dues p c.args.base h n) c.args.rest (Off c.in-Err-Off.line c.in-Err-Off.what)) c.in_ok-views.ensures (subst (IsFirstBadOf p h (dues p c.args.base h c.in_ok-views.views.viewers) c.args.rest) c.in-Err-Off.field-0-is c.in-Err-Off.ensures.err) in
    rw (reverse-reverse h) (rules.0, off.0, off.1, off.2)

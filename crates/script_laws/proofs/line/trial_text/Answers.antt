use Rattle.std.proofs.Common.{refl}
use Rattle.journal_text.specs.Digits as digits
use Rattle.script_laws.specs.Trials.{is_loss, line_text}
use Rattle.script_laws.proofs.Texts.{count_by-reverse}
use Rattle.script_laws.proofs.line.trial_text.Goals as goal

pub returns : goal.returns
unfolding line_text digits.hex8
returns c =
    let h = c.args.journal.now.events in
    rw (
      c.in_ok-push.ensures.items,
      c.in_ok-extend_from_slice-2.ensures.items,
      c.spaced_hex.ensures,
      c.texel_sum.ensures,
      c.in_ok-extend_from_slice.ensures.items,
      c.in_ok-push_count-5.ensures,
      c.in_ok-push_count-4.ensures,
      c.count-2.ensures.count,
      c.in_ok-push_count-3.ensures,
      c.loss_count.ensures,
      c.in_ok-push_count-2.ensures,
      c.count.ensures,
      c.in_ok-push_number.ensures,
      c.in_ok-push_count.ensures,
      c.new-text.ensures.items,
      count_by-reverse is_loss h,
    ) (refl {a = line_text c.args.size c.args.seed h c.args.images.now c.args.endings.now})

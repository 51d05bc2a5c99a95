-- What the parts so far say of all of them.
use Rattle.verify_input.proofs.Names.{ℕ, List, drop, sym, subst, ap, err_from_is_err_and, lines_of_streams, lines_of_marks, Due, same_lines, dues, IsHistory, past_of, History, Rest}
use Rattle.verify_input.specs.declared.what.What.TheVariants as what
use Rattle.verify_input.proofs.Dues.{IsTaking, taking_none, taking_more}
use Rattle.verify_input.proofs.Ending.{joined, parts, part_next, part_as, images_next, all_exit, judged_end}
use Rattle.verify_input.proofs.Offered.{streams_are, marks_are}
use Rattle.verify_input.proofs.whole.take_rest.Goals as goal
use Rattle.verify_input.proofs.whole.take_rest.Goals.{In_ok-take_images, In_ok-take_all, In_ok-take_all-2, In_ok-take_dumps, In_ok-take_viewers}

-- so many parts are taken
abbrev Takes : History → ℕ → ℕ → Rest → Rest → Type 0
Takes history viewers n old new =
    IsTaking history.plans.now (past_of history) (dues history.plans.now history.base (past_of history) viewers) (joined (drop n (parts history.plans.now history.base (past_of history) viewers))) old new 0

-- the lines of streams and of marks are those of the history
abbrev streams_of_it : History → List Due
streams_of_it history = same_lines what.Stream (lines_of_streams history.plans.now (past_of history))

abbrev marks_of_it : History → List Due
marks_of_it history = same_lines what.Mark (lines_of_marks history.plans.now history.base (past_of history))

-- ---- what each part asks for

pub take_all-requires : goal.take_all-requires
take_all-requires c = record { fits = subst IsHistory (sym c.of.ensures) c.requires.history; each = streams_are _ _; other = λ e. cc }

pub take_all-requires-2 : goal.take_all-requires-2
take_all-requires-2 c = record { fits = subst IsHistory (sym c.of-2.ensures) c.requires.history; each = marks_are _ _ _; other = λ e. cc }

-- ---- after each part

images : (c : In_ok-take_images) → Takes c.args.history c.args.viewers 1 c.args.rest.now c.take_images.new.rest
images c = taking_more (images_next c.args.history c.requires.history c.args.history.base c.args.viewers c.images.ensures) taking_none (c.in_ok-take_images.ensures c.args.history.plans.now (past_of c.args.history)).ok

streams : (c : In_ok-take_all) → Takes c.args.history c.args.viewers 2 c.args.rest.now c.take_all.new.self
streams c =
    taking_more (part_as (ap streams_of_it c.of.ensures)) (images (goal.at.In_ok-take_all c).In_ok-take_images) (c.in_ok-take_all.ensures c.args.history.plans.now (past_of c.args.history)).ok

marks : (c : In_ok-take_all-2) → Takes c.args.history c.args.viewers 3 c.args.rest.now c.take_all-2.new.self
marks c =
    taking_more (part_as (ap marks_of_it c.of-2.ensures)) (streams (goal.at.In_ok-take_all-2 c).In_ok-take_all) (c.in_ok-take_all-2.ensures c.args.history.plans.now (past_of c.args.history)).ok

dumps : (c : In_ok-take_dumps) → Takes c.args.history c.args.viewers 4 c.args.rest.now c.take_dumps.new.rest
dumps c = taking_more part_next (marks (goal.at.In_ok-take_dumps c).In_ok-take_all-2) c.in_ok-take_dumps.ensures.ok

views : (c : In_ok-take_viewers) → Takes c.args.history c.args.viewers 5 c.args.rest.now c.take_viewers.new.rest
views c = taking_more part_next (dumps (goal.at.In_ok-take_viewers c).In_ok-take_dumps) c.in_ok-take_viewers.ensures.ok

-- ---- where a part is off

pub returns-in_err-take_images : goal.returns-in_err-take_images
returns-in_err-take_images c =
    all_exit (err_from_is_err_and c.from_residual.result c.from_residual.ensures.1) (images_next c.args.history c.requires.history c.args.history.base c.args.viewers c.images.ensures) taking_none
    (c.in_err-take_images.ensures c.args.history.plans.now (past_of c.args.history)).err

pub returns-in_err-take_all : goal.returns-in_err-take_all
returns-in_err-take_all c =
    all_exit (err_from_is_err_and c.from_residual-in_err-take_all.result c.from_residual-in_err-take_all.ensures.1) (part_as (ap streams_of_it c.of.ensures)) (images (goal.at.returns-in_err-take_all c).In_ok-take_images)
    (c.in_err-take_all.ensures c.args.history.plans.now (past_of c.args.history)).err

pub returns-in_err-take_all-2 : goal.returns-in_err-take_all-2
returns-in_err-take_all-2 c =
    all_exit (err_from_is_err_and c.from_residual-in_err-take_all-2.result c.from_residual-in_err-take_all-2.ensures.1) (part_as (ap marks_of_it c.of-2.ensures)) (streams (goal.at.returns-in_err-take_all-2 c).In_ok-take_all)
    (c.in_err-take_all-2.ensures c.args.history.plans.now (past_of c.args.history)).err

pub returns-in_err-take_dumps : goal.returns-in_err-take_dumps
returns-in_err-take_dumps c =
    all_exit (err_from_is_err_and c.from_residual-in_err-take_dumps.result c.from_residual-in_err-take_dumps.ensures.1) part_next (marks (goal.at.returns-in_err-take_dumps c).In_ok-take_all-2) c.in_err-take_dumps.ensures.err

pub returns-in_err-take_viewers : goal.returns-in_err-take_viewers
returns-in_err-take_viewers c =
    all_exit (err_from_is_err_and c.from_residual-in_err-take_viewers.result c.from_residual-in_err-take_viewers.ensures.1) part_next (dumps (goal.at.returns-in_err-take_viewers c).In_ok-take_dumps) c.in_err-take_viewers.ensures.err

-- ---- where all are taken

pub returns : goal.returns
returns c = judged_end _ _ _ c.args.rest.now c.take_viewers.new.rest c.end.result (views (goal.at.returns c).In_ok-take_viewers) c.end.ensures.ok c.end.ensures.err c.end.ensures.more

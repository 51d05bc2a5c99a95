-- The names that the proofs of a whole output cite, passed on from one place. Declares nothing.
pub use Rattle.std.proofs.Common.{Bool, Bor, Err, List, MatchOption, None, Ok, Option, Result, Some, [], ap, append_assoc, arith, cond, drop, eqb, false, get_or, inl, inr, length, length-append, ltb, map, min, not, refl, replicate, reverse, subst, suc, sym, take, true, vec_len, zero, ℕ, ◌%◌, ◌&&◌, ◌*◌, ◌++◌, ◌+◌, ◌-◌, ◌/◌, ◌<◌, ◌^◌, ◌∙◌, ◌∷◌, ◌≡◌, ◌≢◌, ◌≤◌, ◌⊎◌}
pub use Rattle.std.proofs.lemmas.Bool.{and_parts, cases_order, eq-eqb, eqb-true, false_from_ne_true, ne_eqb, not-true}
pub use Rattle.std.proofs.lemmas.Bool.Decides.{Decides-eqb, nat_tests}
pub use Rattle.std.proofs.lemmas.List.{append-nil, append_cancel_left, append_cancel_right, drop-drop, drop_all, drop_at, drop_more, get_or_default, length-drop, length-map, length-reverse, length-take, length_push, take-append-drop, take-take, take_all, take_at}
pub use Rattle.std.proofs.lemmas.List.Elements.{All-append, All-cons, All-get_or, All-head, All-nil, All-tail, All-weaker, Contains-get_or}
pub use Rattle.std.proofs.lemmas.List.Folds.{concat-append}
pub use Rattle.std.proofs.lemmas.List.FromFn.{get_or-map-range_with_len, get_or-range_with_len, length-map-range_with_len, length-range_with_len}
pub use Rattle.std.proofs.lemmas.List.Splits.{slice_split-cons_no, slice_split_at, slice_split_none}
pub use Rattle.std.proofs.lemmas.Option.{slice_get_read, slice_get_within}
pub use Rattle.std.proofs.lemmas.Result.{IfOk-weaker, err_from_is_err_and}
pub use Rattle.std.proofs.lemmas.Slice.Eq.{bytes_eq-Decides, strip_prefix_is}
pub use Rattle.std.specs.List.{All, concat, flat_map, join_with_byte, list_all, onto_first, range_with_len, slice_split}
pub use Rattle.std.specs.Prelude.{Contains, IfErr, IfOk, IfSome, IsSome, IsSomeAnd, OnErr, OnOk, bytes_eq, codes, count_by, filter, if◌then◌else◌, option_map, slice_get, unwrap_or, ◌==◌}
pub use Rattle.gpu_journal.proofs.Following.{plan_here}
pub use Rattle.gpu_journal.specs.Dumps.{MayDump, dumps_of}
pub use Rattle.gpu_journal.specs.Ended.{end_of, streams_of}
pub use Rattle.gpu_journal.specs.Legal.{IsLegal, Obeys}
pub use Rattle.gpu_journal.specs.Waits.{deed, deed_asked, drawn, endings_in, standing_of, sync_of}
pub use Rattle.gpu_journal.specs.World.{asked_by, replay, state_of, stream_in, world}
pub use Rattle.gpu_journal.specs.declared.end.End.{End}
pub use Rattle.gpu_journal.specs.declared.event.Event.{Event}
pub use Rattle.gpu_journal.specs.declared.event.Event.TheVariants.{Close, Lost, Order, Step}
pub use Rattle.gpu_plan.proofs.Passing.{flush_count_most, flushes_one_further, flushes_within}
pub use Rattle.gpu_plan.specs.Passes.{flushes}
pub use Rattle.gpu_plan.specs.Plans.{IsDump, PlanData, PlansData, RiseFrom, plan_of}
pub use Rattle.gpu_plan.specs.Script.{script_of}
pub use Rattle.gpu_store.proofs.Lookups.{Stands, number_stands, numbers_end}
pub use Rattle.gpu_store.specs.Images.{Pictures, picture_of}
pub use Rattle.gpu_store.specs.Picture.{Picture, texel_row}
unfoldable pub use Rattle.gpu_store.specs.Sums.{texel_sum}
pub use Rattle.journal_text.proofs.Lengths.{length-hex8}
pub use Rattle.journal_text.specs.Digits.{digits_within, hex8, number_text}
unfoldable pub use Rattle.journal_text.specs.Digits.{numeral}
pub use Rattle.journal_text.specs.Lines.{how_text, journal_head}
unfoldable pub use Rattle.journal_text.specs.Lines.{dump_text, mark_text, name_text, view_text}
pub use Rattle.journal_text.specs.Output.{AreDumpLines, AreDumps, AreDumpsOf}
unfoldable pub use Rattle.journal_text.specs.Picture.{head_text, row_text}
pub use Rattle.journal_text.specs.Parts.{heads, image_lines, lines_of_marks, lines_of_streams}
pub use Rattle.journal_text.specs.Text.{end_text, tally_of, tally_text, why_text}
unfoldable pub use Rattle.journal_text.specs.Text.{event_text, journal_text, stream_text}
pub use Rattle.journal_text.specs.declared.tally.Tally.{Tally}
pub use Rattle.journal_verify.proofs.Asking.{noted_sum, told_decides}
pub use Rattle.journal_verify.proofs.Firsts.{rule_is_one, wrong_is_illegal}
pub use Rattle.journal_verify.specs.Answers.{IsFirstWrong, IsWholeHistory}
pub use Rattle.journal_verify.specs.Followed.{may_be_told, sum_after}
pub use Rattle.script_lines.specs.Text.{ends_line, is_blank, is_empty}
unfoldable pub use Rattle.script_lines.specs.Text.{words_of}
pub use Rattle.script_lines.specs.declared.fault.Kind.{Kind}
pub use Rattle.sync_core.specs.declared.ending.Ending.{Ending}
pub use Rattle.wait_hooks.specs.Marks.{mark}
pub use Rattle.verify_input.specs.Cuts.{IsCutAt, IsFirstLine, IsLine}
pub use Rattle.verify_input.specs.Due.{AreDue, AreTakenOff, Due, Dump, IsFirstOff, IsMore, IsOff, LastLook, Look, MayStand, Same, all_dumps_due, begins_view, dumps_due, heads_due, images_due, lines_of_image, looks_due, marks_due, picture_lines, same_lines, streams_due, viewers_due, viewers_in, what_of}
unfoldable pub use Rattle.verify_input.specs.Due.{dues}
pub use Rattle.verify_input.specs.Found.{Finds, HasNoJournal, IsFirstOther, IsRight, LacksText, Records, TellsBehind, head_of, script_in}
pub use Rattle.verify_input.specs.Laws.{FindingIsOne, WholeFindingIsOne}
pub use Rattle.verify_input.specs.Looks.{BeginsWithLook, EndsWith}
unfoldable pub use Rattle.verify_input.specs.Looks.{look_said}
pub use Rattle.verify_input.specs.Parts.{before, begins_part, behind, is_end, is_journal, journal_from, journal_part, script_part, words_on}
pub use Rattle.verify_input.specs.Reading.{HasNoFeed, HasNumbersOfWords, IsFault, IsFirstBad, IsJournal, byte_before, whole_lines}
pub use Rattle.verify_input.specs.Steps.{FindsIn, FindsOf}
pub use Rattle.verify_input.specs.Taking.{HasTaken, IsBad, IsFirstBadOf, IsHistory, IsLook, Judges, JudgesAll, is_lost, off_of, past_of}
pub use Rattle.verify_input.specs.Whole.{AreHeaded, FindsAll, FindsWhole, HasOutput, IsAfterScript, IsRightWhole, LacksEvent, TellsAll, output_part}
pub use Rattle.verify_input.specs.declared.border.Border.{Border}
pub use Rattle.verify_input.specs.declared.border.Border.TheVariants.{Journal, Script}
pub use Rattle.verify_input.specs.declared.finding.Finding.{Finding}
pub use Rattle.verify_input.specs.declared.finding.Finding.TheVariants.{Differs, No, NoJournal, NotComplete, Refused, Yes}
pub use Rattle.verify_input.specs.declared.rest.Bad.{Bad}
pub use Rattle.verify_input.specs.declared.rest.Bad.TheVariants.{Off}
pub use Rattle.verify_input.specs.declared.rest.Rest.{Rest}
pub use Rattle.verify_input.specs.declared.sections.History.{History}
pub use Rattle.verify_input.specs.declared.what.What.{What}

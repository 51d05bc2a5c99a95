-- A client reads its results, and closes.
use Rattle.std.proofs.Common.{◌≡◌, refl, Ok}
use Rattle.std.specs.Prelude.{codes}
use Rattle.gpu_cmd.specs.Checks.{headed, checked, decoded}
use Rattle.gpu_cmd.specs.Copied.{judged, places_read, copied, fetched}
use Rattle.gpu_cmd.specs.Table.{row_of}
use Rattle.gpu_store.specs.Images.{outcome, apply}
use Rattle.gpu_store.specs.Picture.{painted, redrawn}
use Rattle.gpu_store.specs.Conversion.{first_texels}
use Rattle.gpu_plan.specs.Text.{lines_of, words_of}
use Rattle.gpu_plan.specs.Numbers.{number_said}
use Rattle.gpu_plan.specs.Naming.{named_on, named_in}
use Rattle.gpu_plan.specs.Said.{none_said, one_said, two_said, numbered_said, named_said, put_said, fill_said, pairs_of, named_fence, triples_of, flush_said}
use Rattle.gpu_plan.specs.Adding.{with_line, with_stream, may_follow, added, acting, fresh, with_memory, with_results, spans_with, with_puts, with_fill, with_flush, with_finish, with_token, with_close, with_dump}
use Rattle.gpu_plan.specs.Script.{script_of, from_head, from_version, from_body, numbered}
use Rattle.stream_state.specs.Writes.{first_words, after_writes}
use Rattle.stream_state.specs.Steps.{command_in, transfer_bytes, immediate_bytes, asked, effect_of, acted, stepped, effect, writes}
use Rattle.stream_state.specs.Verdict.{checked_state, verdict}
use Rattle.gpu_journal.specs.World.{world}
use Rattle.gpu_journal.specs.Waits.{sync_of}
use Rattle.gpu_journal.specs.Serial.{next, events, serial}
use Rattle.gpu_journal.specs.Written.{written}
use Rattle.journal_text.specs.Digits.{numeral, hex8}
use Rattle.journal_text.specs.Text.{event_text, journal_text, stream_text}
use Rattle.journal_text.specs.Picture.{head_text, row_text, image_text, picture_text}
use Rattle.journal_text.specs.Lines.{name_text, mark_text, dump_text}
use Rattle.journal_text.specs.Output.{output, dump_lines}
use Rattle.script_laws.proofs.worked.Said.{told}

-- from the bytes of the script to the bytes of the output of its serial history
results_and_close : told (script_of (codes "gpu-script 1\nstream 1 normal 64\nresults 0 4\nput 0 00400003 0 6\nput 3 00800006 0 0 6 44332211 ffff6655\nput 9 00a00007 0 0 0 6 0 4\nflush 16\ndump 0 0\ndump 0 1\ndump 0 2\nclose\n")) ≡ Ok (codes "order 1 1 16\nstep 1 0:00400003 1:00000000 2:00000006\nstep 1 3:00800006 4:00000000 5:00000000 6:00000006 7:44332211 8:ffff6655\nstep 1 9:00a00007 10:00000000 11:00000000 12:00000000 13:00000006 14:00000000 15:00000004\nfinish 1 1\nclose 1\nstream 1 closed entries 16 release 0 token 0 words 16 errors 0 0 0\ndump 1 17 0 00000006\ndump 1 18 1 44332211\ndump 1 19 2 00006655\n")
unfolding headed checked decoded judged places_read copied fetched row_of outcome apply painted redrawn first_texels lines_of words_of number_said named_on named_in none_said one_said two_said numbered_said named_said put_said fill_said pairs_of named_fence triples_of flush_said with_line with_stream may_follow added acting fresh with_memory with_results spans_with with_puts with_fill with_flush with_finish with_token with_close with_dump script_of from_head from_version from_body numbered first_words after_writes command_in transfer_bytes immediate_bytes asked effect_of acted stepped effect writes checked_state verdict world sync_of next events serial written numeral hex8 event_text journal_text stream_text head_text row_text image_text picture_text name_text mark_text dump_text output dump_lines
results_and_close = refl

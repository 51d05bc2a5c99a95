-- A stream that closes ends a wait on it.
use Rattle.std.proofs.Common.{◌≡◌, refl, Ok}
use Rattle.std.specs.Prelude.{codes}
use Rattle.gpu_cmd.specs.Checks.{headed, checked, decoded}
use Rattle.gpu_cmd.specs.Copied.{judged, places_read, copied, fetched}
use Rattle.gpu_cmd.specs.Table.{row_of}
use Rattle.gpu_store.specs.Images.{outcome, apply}
use Rattle.gpu_store.specs.Picture.{painted, redrawn}
use Rattle.gpu_store.specs.Conversion.{first_texels}
use Rattle.gpu_plan.specs.Text.{lines_of, words_of}
use Rattle.gpu_plan.specs.Numbers.{number_said}
use Rattle.gpu_plan.specs.Naming.{named_on, named_in}
use Rattle.gpu_plan.specs.Said.{none_said, one_said, two_said, numbered_said, named_said, put_said, fill_said, pairs_of, named_fence, triples_of, flush_said}
use Rattle.gpu_plan.specs.Adding.{with_line, with_stream, may_follow, added, acting, fresh, with_memory, with_results, spans_with, with_puts, with_fill, with_flush, with_finish, with_token, with_close, with_dump}
use Rattle.gpu_plan.specs.Script.{script_of, from_head, from_version, from_body, numbered}
use Rattle.stream_state.specs.Writes.{first_words, after_writes}
use Rattle.stream_state.specs.Steps.{command_in, transfer_bytes, immediate_bytes, asked, effect_of, acted, stepped, effect, writes}
use Rattle.stream_state.specs.Verdict.{checked_state, verdict}
use Rattle.gpu_journal.specs.World.{world}
use Rattle.gpu_journal.specs.Waits.{sync_of}
use Rattle.gpu_journal.specs.Serial.{next, events, serial}
use Rattle.gpu_journal.specs.Written.{written}
use Rattle.journal_text.specs.Digits.{numeral, hex8}
use Rattle.journal_text.specs.Text.{event_text, journal_text, stream_text}
use Rattle.journal_text.specs.Picture.{head_text, row_text, image_text, picture_text}
use Rattle.journal_text.specs.Lines.{name_text, mark_text, dump_text}
use Rattle.journal_text.specs.Output.{output, dump_lines}
use Rattle.script_laws.proofs.worked.Said.{told}

-- from the bytes of the script to the bytes of the output of its serial history
closed_stream : told (script_of (codes "gpu-script 1\nstream 1 normal 16\nput 0 20000003 3 0\nflush 3\nfinish\nflush 3\nclose\nstream 2 normal 16\nflush 0\nfinish\nflush 0 1 9\n")) ≡ Ok (codes "order 1 1 3\norder 2 2 0\nstep 1 0:20000003 1:00000003 2:00000000\nfinish 1 1\nfinish 2 2\norder 1 3 5\norder 2 4 2\nclose 1\nfinish 2 4\nstream 1 closed entries 3 release 3 token 0 words 3 errors 0 0 0\nstream 2 done entries 0 release 0 token 0 words 0 errors 0 0 0\nmark 2 4 1 9 closed 1018\n")
unfolding headed checked decoded judged places_read copied fetched row_of outcome apply painted redrawn first_texels lines_of words_of number_said named_on named_in none_said one_said two_said numbered_said named_said put_said fill_said pairs_of named_fence triples_of flush_said with_line with_stream may_follow added acting fresh with_memory with_results spans_with with_puts with_fill with_flush with_finish with_token with_close with_dump script_of from_head from_version from_body numbered first_words after_writes command_in transfer_bytes immediate_bytes asked effect_of acted stepped effect writes checked_state verdict world sync_of next events serial written numeral hex8 event_text journal_text stream_text head_text row_text image_text picture_text name_text mark_text dump_text output dump_lines
closed_stream = refl

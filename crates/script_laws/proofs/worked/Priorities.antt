-- Of streams that can run the one of the highest priority does, and of these the one with the lowest number.
use Rattle.std.proofs.Common.{◌≡◌, refl, Ok}
use Rattle.std.specs.Prelude.{codes}
use Rattle.gpu_cmd.specs.Checks.{headed, checked, decoded}
use Rattle.gpu_cmd.specs.Copied.{judged, places_read, copied, fetched}
use Rattle.gpu_cmd.specs.Table.{row_of}
use Rattle.gpu_store.specs.Images.{outcome, apply}
use Rattle.gpu_store.specs.Picture.{painted, redrawn}
use Rattle.gpu_store.specs.Conversion.{first_texels}
use Rattle.gpu_plan.specs.Text.{lines_of, words_of}
use Rattle.gpu_plan.specs.Numbers.{number_said}
use Rattle.gpu_plan.specs.Naming.{named_on, named_in}
use Rattle.gpu_plan.specs.Said.{none_said, one_said, two_said, numbered_said, named_said, put_said, fill_said, pairs_of, named_fence, triples_of, flush_said}
use Rattle.gpu_plan.specs.Adding.{with_line, with_stream, may_follow, added, acting, fresh, with_memory, with_results, spans_with, with_puts, with_fill, with_flush, with_finish, with_token, with_close, with_dump}
use Rattle.gpu_plan.specs.Script.{script_of, from_head, from_version, from_body, numbered}
use Rattle.stream_state.specs.Writes.{first_words, after_writes}
use Rattle.stream_state.specs.Steps.{command_in, transfer_bytes, immediate_bytes, asked, effect_of, acted, stepped, effect, writes}
use Rattle.stream_state.specs.Verdict.{checked_state, verdict}
use Rattle.gpu_journal.specs.World.{world}
use Rattle.gpu_journal.specs.Waits.{sync_of}
use Rattle.gpu_journal.specs.Serial.{next, events, serial}
use Rattle.gpu_journal.specs.Written.{written}
use Rattle.journal_text.specs.Digits.{numeral, hex8}
use Rattle.journal_text.specs.Text.{event_text, journal_text, stream_text}
use Rattle.journal_text.specs.Picture.{head_text, row_text, image_text, picture_text}
use Rattle.journal_text.specs.Lines.{name_text, mark_text, dump_text}
use Rattle.journal_text.specs.Output.{output, dump_lines}
use Rattle.script_laws.proofs.worked.Said.{told}

-- from the bytes of the script to the bytes of the output of its serial history
priorities : told (script_of (codes "gpu-script 1\nstream 1 low 16\nflush 0\nstream 2 normal 16\nflush 0\nfinish\nflush 0\nstream 3 low 16\nflush 0\nstream 4 high 16\nflush 0\nstream 5 normal 16\nflush 0\n")) ≡ Ok (codes "order 1 1 0\norder 2 2 0\norder 3 3 0\norder 4 4 0\norder 5 5 0\nfinish 4 4\nfinish 2 2\nfinish 5 5\nfinish 1 1\nfinish 3 3\norder 2 6 2\nfinish 2 6\nstream 1 done entries 0 release 0 token 0 words 0 errors 0 0 0\nstream 2 done entries 0 release 0 token 0 words 0 errors 0 0 0\nstream 3 done entries 0 release 0 token 0 words 0 errors 0 0 0\nstream 4 done entries 0 release 0 token 0 words 0 errors 0 0 0\nstream 5 done entries 0 release 0 token 0 words 0 errors 0 0 0\n")
unfolding headed checked decoded judged places_read copied fetched row_of outcome apply painted redrawn first_texels lines_of words_of number_said named_on named_in none_said one_said two_said numbered_said named_said put_said fill_said pairs_of named_fence triples_of flush_said with_line with_stream may_follow added acting fresh with_memory with_results spans_with with_puts with_fill with_flush with_finish with_token with_close with_dump script_of from_head from_version from_body numbered first_words after_writes command_in transfer_bytes immediate_bytes asked effect_of acted stepped effect writes checked_state verdict world sync_of next events serial written numeral hex8 event_text journal_text stream_text head_text row_text image_text picture_text name_text mark_text dump_text output dump_lines
priorities = refl

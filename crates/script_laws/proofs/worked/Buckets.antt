-- Buckets are made, filled and asked for, until a command is refused.
use Rattle.std.proofs.Common.{◌≡◌, refl, Ok}
use Rattle.std.specs.Prelude.{codes}
use Rattle.gpu_cmd.specs.Checks.{headed, checked, decoded}
use Rattle.gpu_cmd.specs.Copied.{judged, places_read, copied, fetched}
use Rattle.gpu_cmd.specs.Table.{row_of}
use Rattle.gpu_store.specs.Images.{outcome, apply}
use Rattle.gpu_store.specs.Picture.{painted, redrawn}
use Rattle.gpu_store.specs.Conversion.{first_texels}
use Rattle.gpu_plan.specs.Text.{lines_of, words_of}
use Rattle.gpu_plan.specs.Numbers.{number_said}
use Rattle.gpu_plan.specs.Naming.{named_on, named_in}
use Rattle.gpu_plan.specs.Said.{none_said, one_said, two_said, numbered_said, named_said, put_said, fill_said, pairs_of, named_fence, triples_of, flush_said}
use Rattle.gpu_plan.specs.Adding.{with_line, with_stream, may_follow, added, acting, fresh, with_memory, with_results, spans_with, with_puts, with_fill, with_flush, with_finish, with_token, with_close, with_dump}
use Rattle.gpu_plan.specs.Script.{script_of, from_head, from_version, from_body, numbered}
use Rattle.stream_state.specs.Writes.{first_words, after_writes}
use Rattle.stream_state.specs.Steps.{command_in, transfer_bytes, immediate_bytes, asked, effect_of, acted, stepped, effect, writes}
use Rattle.stream_state.specs.Verdict.{checked_state, verdict}
use Rattle.gpu_journal.specs.World.{world}
use Rattle.gpu_journal.specs.Waits.{sync_of}
use Rattle.gpu_journal.specs.Serial.{next, events, serial}
use Rattle.gpu_journal.specs.Written.{written}
use Rattle.journal_text.specs.Digits.{numeral, hex8}
use Rattle.journal_text.specs.Text.{event_text, journal_text, stream_text}
use Rattle.journal_text.specs.Picture.{head_text, row_text, image_text, picture_text}
use Rattle.journal_text.specs.Lines.{name_text, mark_text, dump_text}
use Rattle.journal_text.specs.Output.{output, dump_lines}
use Rattle.script_laws.proofs.worked.Said.{told}

-- from the bytes of the script to the bytes of the output of its serial history
buckets : told (script_of (codes "gpu-script 1\nstream 1 normal 64\nput 0 00400003 0 8\nput 3 00800005 0 0 4 ff0000ff\nput 8 00800005 0 4 4 ff00ff00\nput 13 00400003 0 8\nput 16 20400004 1 2 1\nput 20 20e00008 1 0 0 2 1 1 0\nput 28 00400003 0 4\nput 31 20e00008 1 0 0 1 1 1 0\nput 39 20e00008 1 0 0 1 1 1 1\nflush 47\n")) ≡ Ok (codes "order 1 1 47\nstep 1 0:00400003 1:00000000 2:00000008\nstep 1 3:00800005 4:00000000 5:00000000 6:00000004 7:ff0000ff\nstep 1 8:00800005 9:00000000 10:00000004 11:00000004 12:ff00ff00\nstep 1 13:00400003 14:00000000 15:00000008\nstep 1 16:20400004 17:00000001 18:00000002 19:00000001\nstep 1 20:20e00008 21:00000001 22:00000000 23:00000000 24:00000002 25:00000001 26:00000001 27:00000000\nstep 1 28:00400003 29:00000000 30:00000004\nstep 1 31:20e00008 32:00000001 33:00000000 34:00000000 35:00000001 36:00000001 37:00000001 38:00000000\nlost 1 4 39:20e00008 40:00000001 41:00000000 42:00000000 43:00000001 44:00000001 45:00000001 46:00000001\nimage 1 2 1\n00000000 00ff00ff\nstream 1 lost 4 entries 39 release 0 token 0 words 39 errors 0 0 0\n")
unfolding headed checked decoded judged places_read copied fetched row_of outcome apply painted redrawn first_texels lines_of words_of number_said named_on named_in none_said one_said two_said numbered_said named_said put_said fill_said pairs_of named_fence triples_of flush_said with_line with_stream may_follow added acting fresh with_memory with_results spans_with with_puts with_fill with_flush with_finish with_token with_close with_dump script_of from_head from_version from_body numbered first_words after_writes command_in transfer_bytes immediate_bytes asked effect_of acted stepped effect writes checked_state verdict world sync_of next events serial written numeral hex8 event_text journal_text stream_text head_text row_text image_text picture_text name_text mark_text dump_text output dump_lines
buckets = refl

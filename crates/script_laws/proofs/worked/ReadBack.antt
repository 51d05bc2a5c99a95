-- A client overwrites words once its flush is finished.
use Rattle.std.proofs.Common.{◌≡◌, refl, Ok}
use Rattle.std.specs.Prelude.{codes}
use Rattle.gpu_cmd.specs.Checks.{headed, checked, decoded}
use Rattle.gpu_cmd.specs.Copied.{judged, places_read, copied, fetched}
use Rattle.gpu_cmd.specs.Table.{row_of}
use Rattle.gpu_store.specs.Images.{outcome, apply}
use Rattle.gpu_store.specs.Picture.{painted, redrawn}
use Rattle.gpu_store.specs.Conversion.{first_texels}
use Rattle.gpu_plan.specs.Text.{lines_of, words_of}
use Rattle.gpu_plan.specs.Numbers.{number_said}
use Rattle.gpu_plan.specs.Naming.{named_on, named_in}
use Rattle.gpu_plan.specs.Said.{none_said, one_said, two_said, numbered_said, named_said, put_said, fill_said, pairs_of, named_fence, triples_of, flush_said}
use Rattle.gpu_plan.specs.Adding.{with_line, with_stream, may_follow, added, acting, fresh, with_memory, with_results, spans_with, with_puts, with_fill, with_flush, with_finish, with_token, with_close, with_dump}
use Rattle.gpu_plan.specs.Script.{script_of, from_head, from_version, from_body, numbered}
use Rattle.stream_state.specs.Writes.{first_words, after_writes}
use Rattle.stream_state.specs.Steps.{command_in, transfer_bytes, immediate_bytes, asked, effect_of, acted, stepped, effect, writes}
use Rattle.stream_state.specs.Verdict.{checked_state, verdict}
use Rattle.gpu_journal.specs.World.{world}
use Rattle.gpu_journal.specs.Waits.{sync_of}
use Rattle.gpu_journal.specs.Serial.{next, events, serial}
use Rattle.gpu_journal.specs.Written.{written}
use Rattle.journal_text.specs.Digits.{numeral, hex8}
use Rattle.journal_text.specs.Text.{event_text, journal_text, stream_text}
use Rattle.journal_text.specs.Picture.{head_text, row_text, image_text, picture_text}
use Rattle.journal_text.specs.Lines.{name_text, mark_text, dump_text}
use Rattle.journal_text.specs.Output.{output, dump_lines}
use Rattle.script_laws.proofs.worked.Said.{told}

-- from the bytes of the script to the bytes of the output of its serial history
write_is_read_back : told (script_of (codes "gpu-script 1\nstream 1 normal 32\nmemory 0 1\nput 0 20400004 1 1 1 20c00009 1 0 0 1 1 1 0 0\nfill 0 0 44332211\nflush 13\nfinish\nfill 0 0 88776655\nput 13 20c00009 1 0 0 1 1 1 0 0\nflush 22\n")) ≡ Ok (codes "order 1 1 14\nstep 1 0:20400004 1:00000001 2:00000001 3:00000001\nstep 1 4:20c00009 5:00000001 6:00000000 7:00000000 8:00000001 9:00000001 10:00000001 11:00000000 12:00000000 32:44332211\nfinish 1 1\norder 1 2 26\nstep 1 13:20c00009 14:00000001 15:00000000 16:00000000 17:00000001 18:00000001 19:00000001 20:00000000 21:00000000 32:88776655\nfinish 1 2\nimage 1 1 1\n55667788\nstream 1 done entries 22 release 0 token 0 words 24 errors 0 0 0\n")
unfolding headed checked decoded judged places_read copied fetched row_of outcome apply painted redrawn first_texels lines_of words_of number_said named_on named_in none_said one_said two_said numbered_said named_said put_said fill_said pairs_of named_fence triples_of flush_said with_line with_stream may_follow added acting fresh with_memory with_results spans_with with_puts with_fill with_flush with_finish with_token with_close with_dump script_of from_head from_version from_body numbered first_words after_writes command_in transfer_bytes immediate_bytes asked effect_of acted stepped effect writes checked_state verdict world sync_of next events serial written numeral hex8 event_text journal_text stream_text head_text row_text image_text picture_text name_text mark_text dump_text output dump_lines
write_is_read_back = refl

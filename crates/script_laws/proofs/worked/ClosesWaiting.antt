-- A close may come while a kept wait of its stream's first number is pending: that wait is gone, and no ending is
-- reported.
use Rattle.std.proofs.Common.{◌≡◌, ℕ, List, [], ◌∷◌, Result, Ok, Err, refl}
use Rattle.std.specs.Prelude.{codes}
use Rattle.script_lines.specs.declared.fault.Kind.{Kind}
use Rattle.gpu_plan.specs.Plans.{PlansData}
use Rattle.gpu_journal.specs.declared.event.Event.{Event}
use Rattle.gpu_journal.specs.declared.event.Event.TheVariants.{Order, Finish, Close}
use Rattle.gpu_cmd.specs.Checks.{headed, checked, decoded}
use Rattle.gpu_cmd.specs.Copied.{judged, places_read, copied, fetched}
use Rattle.gpu_cmd.specs.Table.{row_of}
use Rattle.gpu_store.specs.Images.{outcome, apply}
use Rattle.gpu_store.specs.Picture.{painted, redrawn}
use Rattle.gpu_store.specs.Conversion.{first_texels}
use Rattle.gpu_plan.specs.Text.{lines_of, words_of}
use Rattle.gpu_plan.specs.Numbers.{number_said}
use Rattle.gpu_plan.specs.Naming.{named_on, named_in}
use Rattle.gpu_plan.specs.Said.{none_said, one_said, two_said, numbered_said, named_said, put_said, fill_said, pairs_of, named_fence, triples_of, flush_said}
use Rattle.gpu_plan.specs.Adding.{with_line, with_stream, may_follow, added, acting, fresh, with_memory, with_results, spans_with, with_puts, with_fill, with_flush, with_finish, with_token, with_close, with_dump}
use Rattle.gpu_plan.specs.Script.{script_of, from_head, from_version, from_body, numbered}
use Rattle.stream_state.specs.Writes.{first_words, after_writes}
use Rattle.stream_state.specs.Steps.{command_in, transfer_bytes, immediate_bytes, asked, effect_of, acted, stepped, effect, writes}
use Rattle.stream_state.specs.Verdict.{checked_state, verdict}
use Rattle.gpu_journal.specs.Waits.{sync_of, pending_in, endings_in}
use Rattle.gpu_journal.specs.World.{world}
use Rattle.gpu_journal.specs.Serial.{next, events, serial}

abbrev plans_in : Result PlansData (ℕ × Kind) → PlansData
plans_in (Ok plans) = plans
plans_in (Err wrong) = record { version = 0; plans = [] }

-- the second stream waits on the first, and closes
abbrev closing : PlansData
closing = plans_in (script_of (codes "gpu-script 1\nstream 1 normal 16\nflush 0\nstream 2 normal 16\nflush 0 1 1\nclose\n"))

abbrev ordered : List Event
ordered = Order 2 2 0 ∷ Order 1 1 0 ∷ []

its_history : serial closing ≡ Finish 1 1 ∷ Close 2 ∷ ordered
unfolding headed checked decoded judged places_read copied fetched row_of outcome apply painted redrawn first_texels lines_of words_of number_said named_on named_in none_said one_said two_said numbered_said named_said put_said fill_said pairs_of named_fence triples_of flush_said with_line with_stream may_follow added acting fresh with_memory with_results spans_with with_puts with_fill with_flush with_finish with_token with_close with_dump script_of from_head from_version from_body numbered first_words after_writes command_in transfer_bytes immediate_bytes asked effect_of acted stepped effect writes checked_state verdict world sync_of next events serial
its_history = refl

-- before the close its wait is pending
waits_before : pending_in closing ordered ≡ record { stream = 2; order = 2; target = 1; release = 1; position = 0 } ∷ []
unfolding headed checked decoded judged places_read copied fetched row_of outcome apply painted redrawn first_texels lines_of words_of number_said named_on named_in none_said one_said two_said numbered_said named_said put_said fill_said pairs_of named_fence triples_of flush_said with_line with_stream may_follow added acting fresh with_memory with_results spans_with with_puts with_fill with_flush with_finish with_token with_close with_dump script_of from_head from_version from_body numbered first_words after_writes command_in transfer_bytes immediate_bytes asked effect_of acted stepped effect writes checked_state verdict world sync_of next events serial
waits_before = refl

gone_after : pending_in closing (Close 2 ∷ ordered) ≡ []
unfolding headed checked decoded judged places_read copied fetched row_of outcome apply painted redrawn first_texels lines_of words_of number_said named_on named_in none_said one_said two_said numbered_said named_said put_said fill_said pairs_of named_fence triples_of flush_said with_line with_stream may_follow added acting fresh with_memory with_results spans_with with_puts with_fill with_flush with_finish with_token with_close with_dump script_of from_head from_version from_body numbered first_words after_writes command_in transfer_bytes immediate_bytes asked effect_of acted stepped effect writes checked_state verdict world sync_of next events serial
gone_after = refl

none_ended : endings_in closing (serial closing) ≡ []
unfolding headed checked decoded judged places_read copied fetched row_of outcome apply painted redrawn first_texels lines_of words_of number_said named_on named_in none_said one_said two_said numbered_said named_said put_said fill_said pairs_of named_fence triples_of flush_said with_line with_stream may_follow added acting fresh with_memory with_results spans_with with_puts with_fill with_flush with_finish with_token with_close with_dump script_of from_head from_version from_body numbered first_words after_writes command_in transfer_bytes immediate_bytes asked effect_of acted stepped effect writes checked_state verdict world sync_of next events serial
none_ended = refl

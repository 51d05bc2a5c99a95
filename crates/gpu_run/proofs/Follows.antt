-- Which event follows.
use Rattle.std.proofs.Common.{◌≡◌, ℕ, ◌≤◌, ◌<◌, true, false, Option, Some, None, List, length, ap, ◌∙◌}
use Rattle.std.specs.Prelude.{option_map}
use Rattle.gpu_plan.specs.Plans.{PlansData}
use Rattle.gpu_journal.specs.declared.event.Event.{Event}
use Rattle.gpu_journal.specs.declared.event.Event.TheVariants.{Close}
use Rattle.gpu_journal.specs.Serial.{either, first, has_flush, is_at_close, runner, order_event, run_event, next}
use Rattle.serial_laws.proofs.First.{first_is, first_none}

-- no client has passed a flush that has no order, and none stands at its Close
pub record IsSettled (p : PlansData) (h : List Event) : Type 0 where
  pub no_flush : (t : ℕ) → 0 < t → t ≤ length p.plans → has_flush p h t ≡ false
  pub no_close : (t : ℕ) → 0 < t → t ≤ length p.plans → is_at_close p h t ≡ false

-- where no client before has such a flush, the order of this one's follows
pub follows_order : (p : PlansData) (h : List Event) (s : ℕ) → 0 < s → s ≤ length p.plans → ((t : ℕ) → 0 < t → t < s → has_flush p h t ≡ false) → has_flush p h s ≡ true → next p h ≡ Some (order_event p h s)
unfolding next
follows_order p h s a b f e =
    ap (λ (o : Option ℕ). either (option_map (order_event p h) o) (either (option_map Close (first (is_at_close p h) (length p.plans))) (option_map (run_event p h) (runner p h))))
    (first_is (has_flush p h) (length p.plans) s a b f e)

-- where no client has one and none before stands at its Close, the close of this one's stream follows
pub follows_close : (p : PlansData) (h : List Event) (s : ℕ) → 0 < s → s ≤ length p.plans → ((t : ℕ) → 0 < t → t ≤ length p.plans → has_flush p h t ≡ false) → ((t : ℕ) → 0 < t → t < s → is_at_close p h t ≡ false)
    → is_at_close p h s ≡ true → next p h ≡ Some (Close s)
unfolding next
follows_close p h s a b n f e =
    ap (λ (o : Option ℕ). either (option_map (order_event p h) o) (either (option_map Close (first (is_at_close p h) (length p.plans))) (option_map (run_event p h) (runner p h))))
    (first_none (has_flush p h) (length p.plans) n)
    ∙ ap (λ (o : Option ℕ). either (option_map Close o) (option_map (run_event p h) (runner p h))) (first_is (is_at_close p h) (length p.plans) s a b f e)

follows_settled : (p : PlansData) (h : List Event) → IsSettled p h → next p h ≡ option_map (run_event p h) (runner p h)
unfolding next
follows_settled p h n =
    ap (λ (o : Option ℕ). either (option_map (order_event p h) o) (either (option_map Close (first (is_at_close p h) (length p.plans))) (option_map (run_event p h) (runner p h))))
    (first_none (has_flush p h) (length p.plans) n.no_flush)
    ∙ ap (λ (o : Option ℕ). either (option_map Close o) (option_map (run_event p h) (runner p h))) (first_none (is_at_close p h) (length p.plans) n.no_close)

-- else the event of the stream that runs
pub follows_run : (p : PlansData) (h : List Event) (s : ℕ) → IsSettled p h → runner p h ≡ Some s → next p h ≡ Some (run_event p h s)
follows_run p h s n e = follows_settled p h n ∙ ap (option_map (run_event p h)) e

-- and none where no stream runs
pub follows_none : (p : PlansData) (h : List Event) → IsSettled p h → runner p h ≡ None → next p h ≡ None
follows_none p h n e = follows_settled p h n ∙ ap (option_map (run_event p h)) e

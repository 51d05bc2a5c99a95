-- What keeps the clients and the sides of the house together.
use Rattle.std.proofs.Common.{◌≡◌, ◌≢◌, ℕ, ◌+◌, ◌≤◌, ◌<◌, ◌⊎◌, inl, inr, eqb, false, Option, None, Some, List, [], ◌∷◌, ◌++◌, length, refl, sym, ap, subst, ◌∙◌, arith}
use Rattle.std.proofs.lemmas.List.Elements.{All-weaker, All-push}
use Rattle.std.specs.Prelude.{IfSome}
use Rattle.std.specs.Option.{IsSomeAnd}
use Rattle.gpu_plan.specs.Plans.{PlansData, plan_of}
use Rattle.gpu_fetch.specs.Side.{SideData}
use Rattle.gpu_fetch.specs.Plain.{PlainData, one_further, IsBeside, IsNoteBeside}
use Rattle.sync_core.specs.Standing.{IsKnown}
use Rattle.gpu_journal.specs.declared.event.Event.{Event}
use Rattle.gpu_journal.specs.World.{Known, stream_in, known}
use Rattle.gpu_journal.specs.Facts.{reach}
use Rattle.gpu_journal.specs.Serial.{count, order_event}
use Rattle.serial_laws.proofs.First.{nat_cases}
use Rattle.serial_laws.proofs.Others.{known_other}
use Rattle.serial_laws.proofs.Counts.{count_grows}
use Rattle.serial_laws.proofs.Knowns.{known_order}
use Rattle.house_core.specs.Core.{is_home}
use Rattle.gpu_house.specs.Slots.{SlotData, slot_at}
use Rattle.gpu_run.specs.Clients.{RunClientData, client_of_stream, flushes_to}
use Rattle.gpu_run.specs.Served.{PlainHouse, AreBeside, IsOrderedClient, IsServedAt, HaveOneEach, IsAtHomeWith, IsServed}
use Rattle.gpu_run.proofs.Phases.{was_open, count_fresh, reach_ordered}

-- ---- one stream

-- an event that orders nothing of a stream leaves its client
pub client_on : (p : PlansData) (e : Event) (h : List Event) (t : ℕ) (words : PlainData) → (known p (e ∷ h) t).ordered ≡ (known p h t).ordered → IsOrderedClient p h t words → IsOrderedClient p (e ∷ h) t words
client_on p e h t words same old =
    let grows = count_grows p e h t in
    let within = old.within in
    record {
      plan = old.plan;
      within = omega (arith, grows, within);
      passed = λ o. same ∙ old.passed (was_open p h e t o);
    }

-- and so does an event of another stream
pub client_again : (p : PlansData) (e : Event) (h : List Event) (t : ℕ) (words : PlainData) → eqb (stream_in e) t ≡ false → IsOrderedClient p h t words → IsOrderedClient p (e ∷ h) t words
client_again p e h t words off = client_on p e h t words (ap (λ (k : Known). k.ordered) (known_other p e h t off))

-- an action that is no flush
pub client_passed : (p : PlansData) (h : List Event) (s : ℕ) (old new : PlainData) → count p h s ≡ reach p h s → old.done < reach p h s → new ≡ one_further old → flushes_to (plan_of p s) (old.done + 1) ≡ flushes_to (plan_of p s) old.done → IsOrderedClient p h s old → IsOrderedClient p h s new
client_passed p h s old new fresh below is quiet was = subst (IsOrderedClient p h s) (sym is) record {
  plan = was.plan;
  within = omega (arith, fresh, below);
  passed = λ o. was.passed o ∙ sym quiet;
}

-- a flush with its order
pub client_ordered : (p : PlansData) (h : List Event) (s : ℕ) (old new : PlainData) → count p h s ≡ reach p h s → old.done < reach p h s → new ≡ one_further old → flushes_to (plan_of p s) (old.done + 1) ≡ flushes_to (plan_of p s) old.done + 1 → IsOrderedClient p h s old
    → IsOrderedClient p (order_event p h s ∷ h) s new
client_ordered p h s old new fresh below is one was =
    let far : count p (order_event p h s ∷ h) s ≡ reach p h s = count_fresh p (order_event p h s) h s fresh (reach_ordered p h s s) ∙ reach_ordered p h s s in
    subst (IsOrderedClient p (order_event p h s ∷ h) s) (sym is) record {
      plan = was.plan;
      within = omega (arith, far, below);
      passed = λ o.
          let here = was.passed (was_open p h (order_event p h s) s o) in
          let more : (known p (order_event p h s ∷ h) s).ordered ≡ (known p h s).ordered + 1 = ap (λ (k : Known). k.ordered) (known_order p h s _ _) in
          omega (arith, here, more, one);
    }

-- ---- sides and notes

-- what an action of the client keeps of a side
pub record Keeps (f t : ℕ) (old new : PlainData) : Type 0 where
  pub beside : (side : SideData) → f ≤ side.finished → t ≤ side.greatest → IsBeside side old → IsBeside side new
  pub notes : (side : SideData) (mark : ℕ) → f ≤ side.finished → t ≤ side.greatest → IsNoteBeside side old mark → IsNoteBeside side new mark

pub if_some : (o : Option ℕ) (P Q : ℕ → Type 0) → ((n : ℕ) → P n → Q n) → IfSome o P → IfSome o Q
if_some None P Q f h = tt
if_some (Some n) P Q f h = f n h

side_keeps : (f t : ℕ) (old new : PlainData) (first : Option ℕ) (notes : List ℕ) (x : SideData) → Keeps f t old new → x.finished ≡ f → x.greatest ≡ t → AreBeside old first notes x → AreBeside new first notes x
side_keeps f t old new first notes x keeps is_f is_t was =
    let a : f ≤ x.finished = omega (arith, is_f) in
    let b : t ≤ x.greatest = omega (arith, is_t) in
    record {
      side_beside = keeps.beside x a b was.side_beside;
      first_beside = if_some first (IsNoteBeside x old) (IsNoteBeside x new) (λ n h. keeps.notes x n a b h) was.first_beside;
      notes_beside = All-weaker (IsNoteBeside x old) (IsNoteBeside x new) (λ n h. keeps.notes x n a b h) notes was.notes_beside;
    }

pub beside_keeps : (f t : ℕ) (old new : PlainData) (side : Option SideData) (first : Option ℕ) (notes : List ℕ) → Keeps f t old new → IfSome side (λ x. x.finished ≡ f) → IfSome side (λ x. x.greatest ≡ t) → IsSomeAnd side (AreBeside old first notes) → IsSomeAnd side (AreBeside new first notes)
beside_keeps f t old new None first notes keeps is_f is_t was = absurd was
beside_keeps f t old new (Some x) first notes keeps is_f is_t was = side_keeps f t old new first notes x keeps is_f is_t was

-- and puts do so, whatever is finished
pub beside_puts : (old new : PlainData) (side : Option SideData) (first : Option ℕ) (notes : List ℕ) → ((f t : ℕ) → Keeps f t old new) → IsSomeAnd side (AreBeside old first notes) → IsSomeAnd side (AreBeside new first notes)
beside_puts old new None first notes keeps was = absurd was
beside_puts old new (Some x) first notes keeps was = side_keeps x.finished x.greatest old new first notes x (keeps x.finished x.greatest) refl refl was

-- and a note more
pub beside_noted : (f t : ℕ) (old new : PlainData) (side : Option SideData) (first : Option ℕ) (notes : List ℕ) (note : ℕ) → Keeps f t old new → ((x : SideData) → IsBeside x old → IsNoteBeside x new note)
    → IfSome side (λ x. x.finished ≡ f) → IfSome side (λ x. x.greatest ≡ t) → IsSomeAnd side (AreBeside old first notes) → IsSomeAnd side (AreBeside new first (notes ++ note ∷ []))
beside_noted f t old new None first notes note keeps noted is_f is_t was = absurd was
beside_noted f t old new (Some x) first notes note keeps noted is_f is_t was =
    let now = side_keeps f t old new first notes x keeps is_f is_t was in
    record { side_beside = now.side_beside; first_beside = now.first_beside; notes_beside = All-push (IsNoteBeside x new) notes note now.notes_beside (noted x was.side_beside) }

-- ---- all streams

-- the history of another stream's client goes on
pub data GoesOn (t : ℕ) (h g : List Event) : Type 0 where
  stays_so : g ≡ h → GoesOn t h g
  has_event : (e : Event) → g ≡ e ∷ h → eqb (stream_in e) t ≡ false → GoesOn t h g

client_goes_on : (p : PlansData) (h g : List Event) (t : ℕ) (words : PlainData) → GoesOn t h g → IsOrderedClient p h t words → IsOrderedClient p g t words
client_goes_on p h g t words (stays_so is) old = subst (λ (x : List Event). IsOrderedClient p x t words) (sym is) old
client_goes_on p h g t words (has_event e is off) old = subst (λ (x : List Event). IsOrderedClient p x t words) (sym is) (client_again p e h t words off old)

-- another stream stays at home and served
pub other_home : (p : PlansData) (old new : PlainHouse) (clients now : List RunClientData) (t : ℕ) → GoesOn t old.core.past new.core.past → is_home new.core.outs t ≡ is_home old.core.outs t → slot_at new.slots t ≡ slot_at old.slots t → client_of_stream now t ≡ client_of_stream clients t
    → IsAtHomeWith p old clients t → IsAtHomeWith p new now t
other_home p old new clients now t on home slot client was =
    let here = was.1 in
    let words : (client_of_stream now t).words ≡ (client_of_stream clients t).words = ap (λ (c : RunClientData). c.words) client in (
      home ∙ was.0,
      subst (λ (w : PlainData). IsServedAt p new.core.past t (slot_at new.slots t) w) (sym words)
          (subst (λ (x : SlotData SideData ℕ). IsServedAt p new.core.past t x (client_of_stream clients t).words) (sym slot) record { client = client_goes_on p old.core.past new.core.past t (client_of_stream clients t).words on here.client; beside = here.beside }),
    )

-- one stream and all others
pub served_all : (p : PlansData) (house : PlainHouse) (clients : List RunClientData) (s : ℕ) → HaveOneEach p house clients → IsAtHomeWith p house clients s → ((t : ℕ) → IsKnown (length p.plans) t → t ≢ s → IsAtHomeWith p house clients t) → IsServed p house clients
served_all p house clients s many own others = record { many = many; each = λ t k. by t k (nat_cases t s) }
  where
    by : (t : ℕ) → IsKnown (length p.plans) t → (t ≡ s) ⊎ (t ≢ s) → IsAtHomeWith p house clients t
    by t k (inl is) = subst (IsAtHomeWith p house clients) (sym is) own
    by t k (inr off) = others t k off

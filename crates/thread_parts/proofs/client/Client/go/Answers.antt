use Rattle.std.proofs.Common.{◌≡◌, ℕ, List, length, ap, ◌∙◌, arith}
use Rattle.std.specs.Prelude.{slice_get}
use Rattle.shm_words.specs.Acts.{counts}
use Rattle.thread_parts.specs.Clients.{ThreadClientData, due_in}
use Rattle.thread_parts.proofs.Going.{was_left, flush_left, went, put, tried, held, flushed_one, position_fits, flushed_fits, stands_at_close}
use Rattle.thread_parts.proofs.client.Client.go.Goals as goal

pub invariant_of-self : goal.invariant_of-self
invariant_of-self g c =
    let i = c.self.inside in
    put record { stream = i.stream; pass = i.pass; poster = i.poster; held = i.held; reader = i.reader; due = i.due; dumps = i.dumps.items } i.planned.items i.position i.flushed i.dumps.cap
    (ap (λ (x : ThreadClientData). x.held) c.self.view_is ∙ c.requires.none_held) (ap (λ (x : ThreadClientData). x.due) c.self.view_is ∙ c.requires.none_due) c.self.invariant c.act.new.self c.act.result c.act.ensures.acted c.in-Stored.is

pub overflow_add-self-in-Passed : goal.overflow_add-self-in-Passed
overflow_add-self-in-Passed g c =
    let i = c.self.inside in
    let few = position_fits record { stream = i.stream; pass = i.pass; poster = i.poster; held = i.held; reader = i.reader; due = i.due; dumps = i.dumps.items } i.planned.items i.position i.flushed i.dumps.cap c.self.invariant
    (was_left i.pass c.act.new.self c.act.result c.act.ensures.acted (ap counts c.in-Passed.is)) in
    omega (arith, few)

pub invariant_of-self-in-Passed : goal.invariant_of-self-in-Passed
invariant_of-self-in-Passed g c =
    let i = c.self.inside in
    let counted = c.len.ensures in
    let long = i.dumps.ok in
    let many : c.len.result ≡ length i.dumps.items = omega (arith, counted, long) in
    let due = c.due_at-self-inside.ensures ∙ ap (λ (l : List (ℕ × ℕ)). due_in (slice_get l c.len.result) i.position) c.deref.ensures.value ∙ ap (λ (n : ℕ). due_in (slice_get i.planned.items n) i.position) many in
    went record { stream = i.stream; pass = i.pass; poster = i.poster; held = i.held; reader = i.reader; due = i.due; dumps = i.dumps.items } i.planned.items i.position i.flushed i.dumps.cap
    (ap (λ (x : ThreadClientData). x.held) c.self.view_is ∙ c.requires.none_held) (ap (λ (x : ThreadClientData). x.due) c.self.view_is ∙ c.requires.none_due) c.self.invariant c.act.new.self c.due_at-self-inside.result c.act.result c.act.ensures.acted (ap counts c.in-Passed.is) due

pub overflow_add-self-inside : goal.overflow_add-self-inside
overflow_add-self-inside g c =
    let i = c.self.inside in
    let few = flushed_fits record { stream = i.stream; pass = c.act.new.self; poster = i.poster; held = i.held; reader = i.reader; due = i.due; dumps = i.dumps.items } i.planned.items i.position i.flushed i.dumps.cap
    (tried record { stream = i.stream; pass = i.pass; poster = i.poster; held = i.held; reader = i.reader; due = i.due; dumps = i.dumps.items } i.planned.items i.position i.flushed i.dumps.cap
    (ap (λ (x : ThreadClientData). x.held) c.self.view_is ∙ c.requires.none_held) (ap (λ (x : ThreadClientData). x.due) c.self.view_is ∙ c.requires.none_due) c.self.invariant c.act.new.self c.act.result c.act.ensures.acted (ap counts c.in-AtFlush.is))
    (flush_left c.act.new.self (c.act.ensures.flush c.in-AtFlush.is)) in
    omega (arith, few)

pub overflow_add-self-in-AtFlush : goal.overflow_add-self-in-AtFlush
overflow_add-self-in-AtFlush g c =
    let i = c.self.inside in
    let few = position_fits record { stream = i.stream; pass = c.act.new.self; poster = i.poster; held = i.held; reader = i.reader; due = i.due; dumps = i.dumps.items } i.planned.items i.position i.flushed i.dumps.cap
    (tried record { stream = i.stream; pass = i.pass; poster = i.poster; held = i.held; reader = i.reader; due = i.due; dumps = i.dumps.items } i.planned.items i.position i.flushed i.dumps.cap
    (ap (λ (x : ThreadClientData). x.held) c.self.view_is ∙ c.requires.none_held) (ap (λ (x : ThreadClientData). x.due) c.self.view_is ∙ c.requires.none_due) c.self.invariant c.act.new.self c.act.result c.act.ensures.acted (ap counts c.in-AtFlush.is))
    (flush_left c.act.new.self (c.act.ensures.flush c.in-AtFlush.is)) in
    omega (arith, few)

pub overflow_add-self-in-AtFlush-2 : goal.overflow_add-self-in-AtFlush-2
overflow_add-self-in-AtFlush-2 g c =
    let i = c.self.inside in
    let few = flushed_fits record { stream = i.stream; pass = c.act.new.self; poster = i.poster; held = i.held; reader = i.reader; due = i.due; dumps = i.dumps.items } i.planned.items i.position i.flushed i.dumps.cap
    (tried record { stream = i.stream; pass = i.pass; poster = i.poster; held = i.held; reader = i.reader; due = i.due; dumps = i.dumps.items } i.planned.items i.position i.flushed i.dumps.cap
    (ap (λ (x : ThreadClientData). x.held) c.self.view_is ∙ c.requires.none_held) (ap (λ (x : ThreadClientData). x.due) c.self.view_is ∙ c.requires.none_due) c.self.invariant c.act.new.self c.act.result c.act.ensures.acted (ap counts c.in-AtFlush.is))
    (flush_left c.act.new.self (c.act.ensures.flush c.in-AtFlush.is)) in
    omega (arith, few)

pub post_or_keep-requires-clause-note : goal.post_or_keep-requires-clause-note
post_or_keep-requires-clause-note g c =
    let i = c.self.inside in
    let none_held = ap (λ (x : ThreadClientData). x.held) c.self.view_is ∙ c.requires.none_held in
    let none_due = ap (λ (x : ThreadClientData). x.due) c.self.view_is ∙ c.requires.none_due in
    (held record { stream = i.stream; pass = c.act.new.self; poster = i.poster; held = i.held; reader = i.reader; due = i.due; dumps = i.dumps.items } i.planned.items i.position i.flushed i.dumps.cap none_held none_due
    (tried record { stream = i.stream; pass = i.pass; poster = i.poster; held = i.held; reader = i.reader; due = i.due; dumps = i.dumps.items } i.planned.items i.position i.flushed i.dumps.cap none_held none_due c.self.invariant c.act.new.self c.act.result c.act.ensures.acted (ap counts c.in-AtFlush.is))
    (c.act.ensures.flush c.in-AtFlush.is) c.flush-note.new.self c.flush-note.result c.flush-note.ensures.done c.flush-note.ensures.note).next

pub post_or_keep-requires-clause-flush : goal.post_or_keep-requires-clause-flush
post_or_keep-requires-clause-flush g c =
    let i = c.self.inside in
    let none_held = ap (λ (x : ThreadClientData). x.held) c.self.view_is ∙ c.requires.none_held in
    let none_due = ap (λ (x : ThreadClientData). x.due) c.self.view_is ∙ c.requires.none_due in
    (held record { stream = i.stream; pass = c.act.new.self; poster = i.poster; held = i.held; reader = i.reader; due = i.due; dumps = i.dumps.items } i.planned.items i.position i.flushed i.dumps.cap none_held none_due
    (tried record { stream = i.stream; pass = i.pass; poster = i.poster; held = i.held; reader = i.reader; due = i.due; dumps = i.dumps.items } i.planned.items i.position i.flushed i.dumps.cap none_held none_due c.self.invariant c.act.new.self c.act.result c.act.ensures.acted (ap counts c.in-AtFlush.is))
    (c.act.ensures.flush c.in-AtFlush.is) c.flush-note.new.self c.flush-note.result c.flush-note.ensures.done c.flush-note.ensures.note).there

pub invariant_of-self-in-AtFlush : goal.invariant_of-self-in-AtFlush
invariant_of-self-in-AtFlush g c =
    let i = c.self.inside in
    let none_held = ap (λ (x : ThreadClientData). x.held) c.self.view_is ∙ c.requires.none_held in
    let none_due = ap (λ (x : ThreadClientData). x.due) c.self.view_is ∙ c.requires.none_due in
    flushed_one record { stream = i.stream; pass = c.act.new.self; poster = i.poster; held = i.held; reader = i.reader; due = i.due; dumps = i.dumps.items } i.planned.items i.position i.flushed i.dumps.cap none_held none_due
    (tried record { stream = i.stream; pass = i.pass; poster = i.poster; held = i.held; reader = i.reader; due = i.due; dumps = i.dumps.items } i.planned.items i.position i.flushed i.dumps.cap none_held none_due c.self.invariant c.act.new.self c.act.result c.act.ensures.acted (ap counts c.in-AtFlush.is))
    (c.act.ensures.flush c.in-AtFlush.is) c.flush-note.new.self c.flush-note.result c.post_or_keep.new.poster c.post_or_keep.result c.flush-note.ensures.done c.flush-note.ensures.note c.post_or_keep.ensures.posted c.post_or_keep.ensures.stays c.post_or_keep.ensures.back

pub returns-in-AtClose-clause-close : goal.returns-in-AtClose-clause-close
returns-in-AtClose-clause-close g c = λ e. stands_at_close c.self.inside.pass c.act.new.self c.act.result c.act.ensures.acted c.in-AtClose.is

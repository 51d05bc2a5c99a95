use Rattle.std.proofs.Common.{◌≡◌, length, sym, ap, subst, arith}
use Rattle.std.proofs.lemmas.List.{length-map}
use Rattle.std.proofs.lemmas.Bool.Decides.{nat_tests}
use Rattle.thread_parts.specs.Clients.{ThreadClientData, HasReadAll, dump_of}
use Rattle.thread_parts.proofs.Going.{is_whole}
use Rattle.thread_parts.proofs.client.Client.is_whole.Goals as goal

pub returns : goal.returns
returns c =
    let i = c.self.inside in
    let client : ThreadClientData = record { stream = i.stream; pass = i.pass; poster = i.poster; held = i.held; reader = i.reader; due = i.due; dumps = i.dumps.items } in
    let read = c.len.ensures in
    let planned = c.len-2.ensures in
    let a = i.dumps.ok in
    let b = i.planned.ok in (
      (λ same.
          let equal : c.len.result ≡ c.len-2.result = grind (arith, nat_tests) in
          let many : length i.dumps.items ≡ length i.planned.items = omega (arith, read, planned, a, b, equal) in
          subst HasReadAll c.self.view_is (is_whole client i.planned.items i.position i.flushed i.dumps.cap many c.self.invariant)),
      (λ whole.
          let all = ap length (subst HasReadAll (sym c.self.view_is) whole) in
          let mapped = length-map i.dumps.items dump_of in
          let listed = ap length c.self.invariant.counted.planned_is in
          let equal : c.len.result ≡ c.len-2.result = omega (arith, read, planned, a, b, all, mapped, listed) in
          grind (arith, nat_tests)),
    )

use Rattle.std.proofs.Common.{arith}
use Rattle.thread_parts.proofs.Going.{has_room}
use Rattle.thread_parts.proofs.client.Client.read_due.Goals as goal

pub push_reserved-requires : goal.push_reserved-requires
push_reserved-requires c =
    let i = c.self.inside in
    let room = has_room record { stream = i.stream; pass = i.pass; poster = i.poster; held = i.held; reader = i.reader; due = i.due; dumps = i.dumps.items } i.planned.items i.position i.flushed i.dumps.cap (c.in-Some.action, c.in-Some.place) c.in-Some.is c.self.invariant in
    let long = i.dumps.ok in
    omega (arith, room, long)

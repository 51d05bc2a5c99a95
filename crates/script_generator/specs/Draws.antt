-- The draws of a generator of scripts.
use Rattle.std.specs.Prelude.{ℕ, zero, suc, ◌+◌, ◌*◌, ◌/◌, ◌%◌, ◌^◌}

-- the state after a draw, which is also what the draw gives
abbrev pub next_draw : ℕ → ℕ
next_draw state = (1664525 * state + 1013904223) % 2 ^ 32

-- the state after a given number of draws
abbrev pub after_draws : ℕ → ℕ → ℕ
after_draws zero state = state
after_draws (suc count) state = after_draws count (next_draw state)

-- a small draw below a bound: the draw's high half, cut to the bound
abbrev pub below : ℕ → ℕ → ℕ
below bound draw = draw / 65536 % bound

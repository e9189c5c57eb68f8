-- Counting by a flag, for the premise on losses: it is met where not all members of the head were hurt.
use Rattle.std.specs.Prelude.{ℕ, zero, suc, ◌+◌, ◌<◌, ◌≤◌, min}
use Rattle.log_protocol.specs.State.{State}

-- how many of the first n have the flag
abbrev pub count : (ℕ → ℕ) → ℕ → ℕ
count f zero = 0
count f (suc n) = min 1 (f n) + count f n

-- fewer members of the head were hurt since the span began than it has, unless the horizon passed it before the span
abbrev pub NotAllHurt : State → Type 0
NotAllHurt w = 0 < w.head → w.span_low ≤ w.head → count w.hurt (w.member_count (w.line w.head)) < w.member_count (w.line w.head)

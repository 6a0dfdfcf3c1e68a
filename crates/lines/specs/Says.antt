-- A line of bytes that is laid from the left, and is never wider than its room.
use Rattle.std.specs.Prelude.{ℕ, ◌<◌, min, ◌≡◌, List, ◌++◌, length, take, drop}

-- the line so far is t, cut at its room; the next byte goes to `at`
pub record Says (line : List ℕ) (at : ℕ) (t : List ℕ) : Type 0 where
  pub place : at ≡ min (length line) (length t)
  pub text : take at line ≡ take at t

-- a line in which s is put from `at` on, and where the next byte goes; a place past the room writes nothing
pub record Puts (line : List ℕ) (at : ℕ) (s after : List ℕ) (next : ℕ) : Type 0 where
  pub room : length after ≡ length line
  pub says : (t : List ℕ) → Says line at t → Says after next (t ++ s)
  pub kept : drop next after ≡ drop next line
  pub past : length line < at → (next ≡ at) × (after ≡ line)

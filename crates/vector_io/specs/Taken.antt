-- What a read takes from the input.
use Rattle.std.specs.Prelude.{Option, ℕ, ◌≡◌, ◌≤◌, ◌+◌, ◌*◌, List, length, take}
use Rattle.std.specs.Io.KnownBytes.{Consumes}
use Rattle.hex_text.specs.Digits.{byte_from, bytes_from, byte_digits}

-- Some bytes were taken from the input, and they stand at the start of the buffer.
abbrev pub LeavesTaken : Option (List ℕ) → Option (List ℕ) → List ℕ → Type 0
LeavesTaken old new buf = (n : ℕ) × (n ≤ length buf) × Consumes old new (take n buf)

-- Some bytes were taken from the input.
abbrev pub TakesSome : Option (List ℕ) → Option (List ℕ) → Type 0
TakesSome old new = (bs : List ℕ) × Consumes old new bs

-- The next characters are the four digits of a number, the high byte first, and one more.
abbrev pub ReadsNumber : Option (List ℕ) → Option (List ℕ) → ℕ → Type 0
ReadsNumber old new n =
    (text : List ℕ) × (length text ≡ 5) × Consumes old new text × (n ≡ byte_from text 0 * 256 + byte_from text byte_digits)

-- The next characters are the digits of so many bytes, and one more.
abbrev pub ReadsRun : Option (List ℕ) → Option (List ℕ) → ℕ → List ℕ → Type 0
ReadsRun old new n run = (text : List ℕ) × (length text ≡ n * byte_digits + 1) × Consumes old new text × (run ≡ bytes_from text n 0)

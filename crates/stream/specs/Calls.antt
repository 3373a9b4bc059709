-- Calls one after the other: "Laws over calls, here and later, start fresh, hand on each state unaltered and feed untaken bytes again."
use Rattle.std.specs.Prelude.{ℕ, Bool, false, cond, List, [], ◌∷◌, ◌++◌, length, take, drop, replicate, Option, None, Some}
use Rattle.stream.specs.Stream.{Event, listed}
use Rattle.stream.specs.Reader.{Position, told, taken, after, outgrows}
use Rattle.stream.specs.State.{position_in, bytes_of}

-- A form of state: the position that a state is, and the state of a position. By value it is the position itself; for C, 24 bytes.
pub record Form (S : Type 0) : Type 0 where
  pub view : S → Position
  pub write : Position → S

abbrev pub by_value : Form Position
by_value = record { view = λ p. p; write = λ p. p }

abbrev pub by_bytes : Form (List ℕ)
by_bytes = record { view = position_in; write = bytes_of }

-- Whether lent output is shorter than the two runs that a call would give.
abbrev pub is_short : Option Event → ℕ → Bool
is_short None room = false
is_short (Some e) room = outgrows e.told room

-- A call that tells and then advances. Refused with 8 it takes nothing, and "the state is as it was".
pub record Step (S : Type 0) : Type 0 where
  pub event : Option Event
  pub taken : ℕ
  pub state : S

unfoldable pub call : {S : Type 0} → Form S → S → List ℕ → ℕ → Step S
call f s part room =
    let p = f.view s in
    cond (is_short (told p part) room) (record { event = None; taken = 0; state = s })
    (record { event = told p part; taken = taken p part; state = f.write (after p part) })

-- What calls have told, the state that they left, and the bytes not yet taken.
pub record Run (S : Type 0) : Type 0 where
  pub events : List Event
  pub state : S
  pub rest : List ℕ

-- What is lent to a call: so many of the bytes not yet taken, and so much output.
pub record Lent : Type 0 where
  pub size : ℕ
  pub room : ℕ

unfoldable pub calls_over : {S : Type 0} → Form S → List Lent → S → List ℕ → Run S
calls_over f [] s rest = record { events = []; state = s; rest = rest }
calls_over f (c ∷ cs) s rest =
    let k = call f s (take c.size rest) c.room in
    let later = calls_over f cs k.state (drop k.taken rest) in
    record { events = listed k.event ++ later.events; state = later.state; rest = later.rest }

-- A list of parts, each fed to one call after the other with what is left of it. Each takes a byte at least, so as many as bytes are
-- enough; those behind the last byte change nothing.
unfoldable pub parts_fed : {S : Type 0} → Form S → ℕ → List (List ℕ) → S → Run S
parts_fed f room [] s = record { events = []; state = s; rest = [] }
parts_fed f room (part ∷ parts) s =
    let fed = calls_over f (replicate (length part) (record { size = length part; room = room })) s part in
    let later = parts_fed f room parts fed.state in
    record { events = fed.events ++ later.events; state = later.state; rest = later.rest }

-- The stream that the parts make; and a stream in parts of one byte.
unfoldable pub joined_parts : List (List ℕ) → List ℕ
joined_parts [] = []
joined_parts (part ∷ parts) = part ++ joined_parts parts

unfoldable pub singles : List ℕ → List (List ℕ)
singles [] = []
singles (b ∷ s) = (b ∷ []) ∷ singles s

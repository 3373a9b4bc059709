-- Hexadecimal text as the vector files have it: upper case in what is read, lower case in what is written.
use Rattle.std.specs.Prelude.{ℕ, zero, suc, ◌+◌, ◌-◌, ◌*◌, ◌/◌, ◌%◌, min, cond, List, [], ◌∷◌, ◌++◌, ltb, get_or, length, take, drop}

-- The characters 0, A and a.
abbrev pub char_zero : ℕ
char_zero = 48

abbrev pub char_upper_a : ℕ
char_upper_a = 65

abbrev pub char_lower_a : ℕ
char_lower_a = 97

-- Sixteen digits, of which ten are decimal and the others letters; two to a byte.
abbrev pub base : ℕ
base = 16

abbrev pub decimal_count : ℕ
decimal_count = 10

abbrev pub letter_count : ℕ
letter_count = base - decimal_count

abbrev pub byte_digits : ℕ
byte_digits = 2

-- The value of a digit; 0 for any other character.
unfoldable pub digit_value : ℕ → ℕ
digit_value c =
    cond (ltb c char_zero) 0
    (cond (ltb c (char_zero + decimal_count)) (c - char_zero)
    (cond (ltb c char_upper_a) 0
    (cond (ltb c (char_upper_a + letter_count)) (c - char_upper_a + decimal_count) 0)))

-- The byte whose two digits stand at a place of a text; what lies past its end counts as no digit.
unfoldable pub byte_from : List ℕ → ℕ → ℕ
byte_from text at = digit_value (get_or text at 0) * base + digit_value (get_or text (at + 1) 0)

-- As many bytes as asked for, two digits each, from a place on.
unfoldable pub bytes_from : List ℕ → ℕ → ℕ → List ℕ
bytes_from text zero at = []
bytes_from text (suc n) at = byte_from text at ∷ bytes_from text n (at + byte_digits)

-- The run that a text starts with, as much of it as there is room for: its length, a space, its bytes.
unfoldable pub run_in : List ℕ → ℕ → List ℕ
run_in text room = take (byte_from text 0) (bytes_from text room 3)

-- The last digit of a number.
unfoldable pub last_digit : ℕ → ℕ
last_digit n = cond (ltb (n % base) decimal_count) (char_zero + n % base) (char_lower_a - decimal_count + n % base)

-- The text of bytes, two digits each.
unfoldable pub text_of : List ℕ → List ℕ
text_of [] = []
text_of (b ∷ bs) = last_digit (b / base) ∷ last_digit b ∷ text_of bs

-- How much of that text there is room for.
abbrev pub text_length : List ℕ → ℕ → ℕ
text_length bytes room = min (length (text_of bytes)) room

-- A buffer with so much of the text at its start; what lies behind is as it was.
unfoldable pub text_over : List ℕ → List ℕ → List ℕ
text_over bytes out = take (text_length bytes (length out)) (text_of bytes) ++ drop (text_length bytes (length out)) out

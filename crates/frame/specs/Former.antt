-- Refusal 5, which was withdrawn for 50 to 53: document 02, K2. Only laws speak of it.
use Rattle.std.specs.Prelude.{ℕ, ◌≡◌, ◌↔◌, Bool, true, false, ◌&&◌, List, [], ◌∷◌, leb, length}
use Rattle.frame.specs.declared.response.ResponseKind.{ResponseKind}
use Rattle.frame.specs.Response.{response_size}
use Rattle.frame.specs.Count.{wrong_count}
use Rattle.frame.specs.Header.{kind_asked}
use Rattle.frame.specs.Refusal.{response_forbidden, response_too_many, Rule, first_broken}
use Rattle.frame.specs.Reader.{read_rules_with}
use Rattle.frame.specs.Writer.{write_rules_with}

-- "response count wrong for its kind"
abbrev pub count_wrong : ℕ
count_wrong = 5

-- The one rule that stood where the four are, for n bytes without check byte.
abbrev pub former_rules : ResponseKind → ℕ → List Rule
former_rules kind n = record { number = count_wrong; broken = wrong_count kind n } ∷ []

-- The reader's refusal as it was, "(kind 3 needs two bytes)".
unfoldable pub former_read_refusal : List ℕ → List ℕ → ℕ
former_read_refusal first response =
    let kind = kind_asked first in first_broken (read_rules_with (former_rules kind (response_size kind (length response))) first response)

-- The writer's refusal as it was, "(kind 3 needs one byte)".
unfoldable pub former_write_refusal : List ℕ → List ℕ → List ℕ → ℕ → ℕ
former_write_refusal header body response room =
    first_broken (write_rules_with (former_rules (kind_asked header) (length response)) header body response room)

-- Whether a refusal is one of 50 to 53.
abbrev pub is_count_refusal : ℕ → Bool
is_count_refusal n = leb response_forbidden n && leb n response_too_many

-- A refusal, and the one that was given before: one of 50 to 53 stands exactly where 5 did, and every other number, that of no
-- refusal included, is as it was.
pub record Split (now before : ℕ) : Type 0 where
  pub five : (is_count_refusal now ≡ true) ↔ (before ≡ count_wrong)
  pub others : is_count_refusal now ≡ false → now ≡ before

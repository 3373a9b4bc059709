-- A frame and its parts, on any bus, and what is handed over of them: document 01, "The frame".
use Rattle.std.specs.Prelude.{ℕ, ◌+◌, ◌-◌, ◌≤◌, ◌≡◌, cond, List, ◌++◌, eqb, length, take, drop, Result}
use Rattle.frame.specs.declared.frame.Parts as read
use Rattle.frame.specs.declared.frame.Runs as written
use Rattle.frame.specs.declared.refusal.Refusal.{Refusal}
use Rattle.frame.specs.declared.response.ResponseKind.{ResponseKind}
use Rattle.frame.specs.Bytes.{placed}
use Rattle.frame.specs.Header.{one_byte_form}
use Rattle.frame.specs.Refusal.{Outcome, refused, accepted, outcome_by, number_of}
use Rattle.frame.specs.Response.{kind_number, is_checked, kind_data}

-- "All bytes of both runs together number at most 12."
abbrev pub most_bytes : ℕ
most_bytes = 12

-- Two byte runs, before and after EOD; where a bus has no response, the second is empty.
pub record Frame : Type 0 where
  pub first : List ℕ
  pub response : List ℕ

abbrev pub frame_size : Frame → ℕ
frame_size f = length f.first + length f.response

-- The parts of a frame, without check bytes; `body` is the data.
pub record Parts : Type 0 where
  pub header : List ℕ
  pub body : List ℕ
  pub kind : ResponseKind
  pub response : List ℕ

-- "The first run is header, data, one check byte": the parts of a run whose header has n bytes.
unfoldable pub parts_at : ℕ → List ℕ → ResponseKind → List ℕ → Parts
parts_at n run kind response =
    record { header = take n run; body = take (length run - (n + 1)) (drop n run); kind = kind; response = response }

-- Document 000's limits on data and response data together, by header bytes: sections 5.1 and 5.2.1.5. Kind 3 has one byte less.
abbrev pub limit : ResponseKind → ℕ → ℕ
limit kind n = cond (is_checked kind) (cond (eqb n one_byte_form) 9 7) (cond (eqb n one_byte_form) 10 8)

-- The parts that a reader hands over, as runs of bytes.
abbrev pub handed : read.Parts → Parts
handed p = record { header = p.header.now; body = p.body.now; kind = p.kind; response = p.response.now }

-- What a reader gives.
abbrev pub reading_of : Result read.Parts Refusal → Outcome Parts
reading_of r = outcome_by handed number_of r

-- What is told of the parts to C: how long each is, and the kind's number.
pub record Sizes : Type 0 where
  pub header : ℕ
  pub body : ℕ
  pub kind : ℕ
  pub response : ℕ

abbrev pub sizes : Outcome Parts → Outcome Sizes
sizes (refused n) = refused n
sizes (accepted p) =
    accepted (record { header = length p.header; body = length p.body; kind = kind_number p.kind; response = length p.response })

-- What is handed over lies within the two runs, and these within twelve bytes: the header at the start of the first, the data
-- behind it, then one check byte; the response at the start of the second.
pub record Handed (first response : List ℕ) (p : Parts) : Type 0 where
  pub header : p.header ≡ take (length p.header) first
  pub body : p.body ≡ take (length p.body) (drop (length p.header) first)
  pub whole : length p.header + length p.body + 1 ≡ length first
  pub kind : kind_number p.kind ≤ kind_data
  pub behind : p.response ≡ take (length p.response) response
  pub within : length p.response ≤ length response
  pub most : length first + length response ≤ most_bytes

-- What a writer hands over of a frame: the length of each run.
pub record Runs : Type 0 where
  pub first : ℕ
  pub response : ℕ

abbrev pub runs : Outcome Frame → Outcome Runs
runs (refused n) = refused n
runs (accepted f) = accepted (record { first = length f.first; response = length f.response })

-- What a writer gives.
abbrev pub writing_of : Result written.Runs Refusal → Outcome Runs
writing_of r = outcome_by (λ (w : written.Runs). record { first = w.first; response = w.response }) number_of r

-- Lent output afterwards: the first run, then the response, at its start; refused, as it was.
abbrev pub out_written : Outcome Frame → List ℕ → List ℕ
out_written (refused n) out = out
out_written (accepted f) out = placed out 0 (f.first ++ f.response)

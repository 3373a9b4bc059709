-- One byte changed, whichever of its bits, is found by the check byte of either bus.
use mathlib.Core.Path.{◌≡◌, sym, ap, ◌∙◌}
use mathlib.Core.Bool.{not, true≢false}
use mathlib.Core.List.{List, ◌∷◌}
use Prim.Native.Nat.{ℕ, ◌+◌}
use native.Mathlib.Omega.{arith}
use borrow.Author.Tests.{le-ltb}
use lib.ListN.{length, length-append}
use Rattle.frame.specs.Bytes.{Bytes}
use Rattle.frame.specs.Seal.{OneChanged}
use Rattle.frame.specs.CheckByte.{check_byte}
use Rattle.frame.specs.Header.{three_byte_form}
use Rattle.frame.specs.Frame.{Parts, most_bytes}
use Rattle.frame.specs.Refusal.{refused, accepted, outcome, check_wrong}
use Rattle.frame.specs.Reader.{read_frame}
use Rattle.frame.specs.Iso.{sum_byte, iso_read_rules, iso_read_refusal, iso_parts, read_iso}
use Rattle.frame.proofs.seal.Laws.{one_changed}
use Rattle.frame.proofs.check_byte.Laws.{register_detects}
use Rattle.frame.proofs.iso.Laws.{sum_detects}
use Rattle.frame.proofs.refusal.Laws.{broken, kept}
use Rattle.frame.proofs.RoundTrip.{frame_accepted_exactly}
use Rattle.frame.proofs.IsoRoundTrip as iso

same_length : (s t : List ℕ) → OneChanged s t → length s ≡ length t
same_length s t o =
    let b = o.before in
    let a = o.after in
    omega (
      arith,
      ap length o.was ∙ length-append b (o.byte ∷ a),
      ap length o.is ∙ length-append b (o.changed ∷ a),
    )

-- "an accepted message, or first run, with exactly one byte changed, whichever of its bits, is never accepted": on J1850, whatever
-- response follows.
pub first_run_changed :
    (first other response behind : List ℕ) (p q : Parts)
    → Bytes first
    → Bytes other
    → OneChanged first other
    → read_frame first response ≡ accepted p
    → read_frame other behind ≡ accepted q
    → ⊥
first_run_changed first other response behind p q bf bo o e f =
    let was = ((frame_accepted_exactly first response).0 (p, e)).check in
    let is = ((frame_accepted_exactly other behind).0 (q, f)).check in
    true≢false (sym is ∙ one_changed check_byte register_detects first other bf bo o was)

-- "on ISO 9141-2 it is refused with 3"
pub message_changed :
    (run other : List ℕ) (p : Parts)
    → Bytes run
    → Bytes other
    → OneChanged run other
    → read_iso run ≡ accepted p
    → read_iso other ≡ refused check_wrong
unfolding read_iso iso_read_refusal iso_read_rules
message_changed run other p br bo o e =
    let was = (iso.frame_accepted_exactly run).0 (p, e) in
    let size = same_length run other o in
    let found = one_changed sum_byte sum_detects run other br bo o was.check in
    ap (λ (n : ℕ). outcome n (iso_parts other))
    (kept _ _ (le-ltb most_bytes (length other) (omega (arith, was.most)))
    ∙ kept _ _ (le-ltb (length other) (three_byte_form + 1) (omega (arith, was.long)))
    ∙ broken _ _ (ap not found))

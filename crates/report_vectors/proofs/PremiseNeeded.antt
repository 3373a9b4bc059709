-- Demand 3 does not hold without its premise: what the definitions compute for two supplements and a frame.
use mathlib.Core.Path.{◌≡◌, refl, sym, ap, ◌∙◌, subst}
use mathlib.Core.List.{List, [], ◌∷◌, Memᴰ}
use Rattle.std.proofs.Common.{Some}
use Prim.Native.Nat.{ℕ}
use native.Mathlib.Omega.{arith}
use lib.IntN.{pos}
use lib.ListN.{get_or}
use Rattle.frame.specs.declared.response.ResponseKind.TheVariants.{Empty}
use lib.Ieee.{of_int, div, to_bits}
use Rattle.frame.specs.Refusal.{accepted, first_broken}
use Rattle.frame.specs.Seal.{is_sealed_by}
use Rattle.frame.specs.CheckByte.{step, steps, feed, register, check_byte}
use Rattle.frame.specs.Response.{sent, response_size}
use Rattle.frame.specs.Count.{count_rules, count_refusal}
use Rattle.frame.specs.Header.{header_size, type_table, response_kind, kind_asked}
use Rattle.frame.specs.Frame.{Parts, parts_at}
use Rattle.frame.specs.Reader.{read_rules_with, read_rules, read_refusal, parts_of, read_frame}
use Rattle.catalogue.specs.Rows.{in_order}
use Rattle.catalogue.specs.Tables.{slot_rows, prn_rows}
use Rattle.catalogue.specs.Search.{first_where}
use Rattle.catalogue.specs.Sae.{sae_slot, sae_prn}
use Rattle.catalogue.specs.Kind.{kinds, kind_found, known, or_unknown, record_size, key_size}
use Rattle.catalogue.specs.Record.{has_key, record_with, two, numbers, layout_row}
use Rattle.catalogue.specs.Record.{header_fits, selector_fits, layout_fits, in_range, in_sae, fault_rules, fault}
use Rattle.catalogue.specs.Supplement.{NoNewSelector, records_in, records_of, check_from, check}
use Rattle.catalogue.specs.Lookup.{catalogue_of, length_for}
use Rattle.report.specs.Bits.{bit_at, cut}
use Rattle.report.specs.Scaling.{signed, pattern, raw_number, above, quotient, number_line, within_limits, form_line}
use Rattle.report.specs.Spots.{spot_at, spot_of, spots}
use Rattle.report.specs.Items.{slot_line, item_line}
use Rattle.report.specs.Report.{key_byte, key_target, group_of, report_of}
use Rattle.report.specs.Rows.{big_endian, row}
use Rattle.report.specs.Answer.{under}
use Rattle.report.specs.Demand.{item, item_in, line_at}
use Rattle.report_vectors.specs.BenchCases.{number, selector, one_item, one_byte_selector, no_selector, short_frame}
use Rattle.report_vectors.specs.Premise.{PremiseNeeded}

first_records : records_of one_byte_selector ≡ one_byte_selector ∷ []
unfolding records_of records_in record_size or_unknown kind_found kinds first_where
first_records = refl

second_records : records_of no_selector ≡ one_byte_selector ∷ selector 0 ∷ one_item 0 0 0 0x10 0x25 ∷ []
unfolding records_of records_in record_size or_unknown kind_found kinds first_where
second_records = refl

abbrev frame : Parts
frame = record { header = 0x48 ∷ 0x6B ∷ 0x10 ∷ []; body = 0x41 ∷ 0x65 ∷ []; kind = Empty; response = [] }

accepted_both : ((check one_byte_selector).refusal ≡ 0) × ((check no_selector).refusal ≡ 0)
unfolding check check_from fault fault_rules in_range in_sae layout_fits selector_fits header_fits records_of records_in record_size key_size
    kinds kind_found known or_unknown first_broken record_with has_key first_where
accepted_both = (refl, refl)

read : read_frame short_frame [] ≡ accepted frame
unfolding read_frame read_refusal read_rules read_rules_with parts_of parts_at header_size type_table response_kind kind_asked count_rules count_refusal sent
    response_size is_sealed_by check_byte register feed steps step first_broken
read = refl

lines :
    (line_at (under one_byte_selector frame) (item 0 0) ≡ Some (number (pos 101) (pos 101) 1))
    × (line_at (under no_selector frame) (item 0 0) ≡ Some (number (pos 65) (pos 65) 1))
unfolding records_of records_in record_size kinds kind_found or_unknown catalogue_of length_for record_with has_key layout_row numbers two
    sae_prn prn_rows sae_slot slot_rows first_where report_of key_byte key_target group_of spots spot_of spot_at item_line slot_line cut bit_at form_line
    within_limits in_order pattern number_line quotient above raw_number signed of_int div line_at item_in
lines = (refl, refl)

-- The first supplement's only record is none of kind 4.
broken : NoNewSelector (records_of one_byte_selector) (records_of no_selector) → ⊥
broken kept =
    let there : Memᴰ (selector 0) (records_of no_selector) =
    subst (Memᴰ (selector 0)) (sym second_records) (mathlib.Core.List.Memᴰ.tail (mathlib.Core.List.Memᴰ.head refl)) in
    let own : Memᴰ one_byte_selector (records_of one_byte_selector) =
    subst (Memᴰ one_byte_selector) (sym first_records) (mathlib.Core.List.Memᴰ.head refl) in
    let stands = subst (Memᴰ (selector 0)) first_records (kept (selector 0) one_byte_selector there refl own refl refl) in
    let kind : ◌≡◌ {A = ℕ} 4 3 = ap (λ (r : List ℕ). get_or r 0 0) (mathlib.Core.List.Memᴰ.eq_of_singleton stands) in
    omega arith

-- The whole number above the line is in the row of a Number.
differs : row (number (pos 101) (pos 101) 1) ≡ row (number (pos 65) (pos 65) 1) → ⊥
unfolding row big_endian of_int to_bits
differs e = let above : ◌≡◌ {A = ℕ} 101 65 = ap (λ (r : List ℕ). get_or r 16 0) e in omega arith

-- "two supplements that break it and a frame whose shown line changes"
pub premise_needed : PremiseNeeded
premise_needed =
    record {
      accepted_first = accepted_both.0;
      accepted_second = accepted_both.1;
      among =
          λ r m.
          subst (Memᴰ r) (sym second_records)
          (mathlib.Core.List.Memᴰ.head (mathlib.Core.List.Memᴰ.eq_of_singleton (subst (Memᴰ r) first_records m)));
      broken = broken;
      parts = frame;
      read = read;
      shown = lines.0;
      known = refl;
      otherwise = lines.1;
      differs = differs;
      not_kept =
          λ k.
          let same : Some (number (pos 101) (pos 101) 1) ≡ Some (number (pos 65) (pos 65) 1) = sym (k.shown (item 0 0) _ lines.0 refl) ∙ lines.1 in
          let line : number (pos 101) (pos 101) 1 ≡ number (pos 65) (pos 65) 1 = cc in
          differs (ap row line);
    }

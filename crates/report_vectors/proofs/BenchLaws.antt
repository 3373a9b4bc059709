-- P1 to P13 of document 01, its whole report, the refusals of ISO 9141-2, and the selectors of K5: one computed test over each table. The
-- cases ask what the definitions of the layers compute, so these are opened here and in PremiseNeeded alone.
use mathlib.Core.Path.{◌≡◌, refl}
use mathlib.Core.List.{map}
use lib.Ieee.{of_int, div, to_bits}
use Rattle.frame.specs.Refusal.{first_broken}
use Rattle.frame.specs.Seal.{is_sealed_by}
use Rattle.frame.specs.CheckByte.{step, steps, feed, register, check_byte}
use Rattle.frame.specs.Response.{sent, response_size}
use Rattle.frame.specs.Count.{count_rules, count_refusal}
use Rattle.frame.specs.Header.{header_size, type_table, response_kind, kind_asked}
use Rattle.frame.specs.Frame.{parts_at}
use Rattle.frame.specs.Reader.{read_rules_with, read_rules, read_refusal, parts_of, read_frame}
use Rattle.frame.specs.Iso.{sum, sum_byte, wrong_first, iso_read_rules, iso_read_refusal}
use Rattle.catalogue.specs.Rows.{in_order}
use Rattle.catalogue.specs.Tables.{slot_rows, prn_rows}
use Rattle.catalogue.specs.Search.{first_where}
use Rattle.catalogue.specs.Sae.{sae_slot, sae_prn}
use Rattle.catalogue.specs.Kind.{kinds, kind_found, known, or_unknown, record_size, key_size}
use Rattle.catalogue.specs.Record.{has_key, record_with, two, numbers, layout_row, header_fits, selector_fits, layout_fits}
use Rattle.catalogue.specs.Record.{in_range, in_sae, fault_rules, fault}
use Rattle.catalogue.specs.Supplement.{records_in, records_of, check_from, check}
use Rattle.catalogue.specs.Lookup.{catalogue_of, length_for}
use Rattle.report.specs.Bits.{bit_at, cut}
use Rattle.report.specs.Scaling.{signed, pattern, raw_number, above, quotient, number_line, within_limits, form_line}
use Rattle.report.specs.Spots.{spot_at, spot_of, spots, place_after}
use Rattle.report.specs.Items.{slot_line, item_line}
use Rattle.report.specs.Verdict.{any, verdict_of}
use Rattle.report.specs.Report.{key_byte, key_target, remainder_at, group_of, response_line, report_of, group_lines, lines_of, verdict}
use Rattle.report.specs.Rows.{big_endian, row, rows_of, report_bytes}
use Rattle.report.specs.Answer.{fitted, answer_of, report_answer}
use Rattle.report_vectors.specs.BenchCases.{bench_cases, whole_cases, iso_cases, selector_cases, record_cases, line_by, answered, expected}

-- In every case of the table the definitions answer what is expected.
pub bench_cases_hold : map answered bench_cases ≡ map expected bench_cases
unfolding bench_cases answered expected line_by form_line within_limits in_order pattern number_line quotient above raw_number signed of_int div
    sae_slot first_where slot_rows read_refusal read_rules read_rules_with first_broken header_size
bench_cases_hold = refl

-- From the bytes of supplement and frame to those of the rows: three tables by one computed test.
reports_hold :
    (map answered whole_cases ≡ map expected whole_cases)
    × (map answered selector_cases ≡ map expected selector_cases)
    × (map answered record_cases ≡ map expected record_cases)
unfolding whole_cases selector_cases record_cases answered expected report_answer answer_of fitted
    check check_from fault fault_rules in_range in_sae layout_fits selector_fits header_fits records_of records_in record_size key_size
    kinds kind_found known or_unknown first_broken read_frame read_refusal read_rules read_rules_with parts_of parts_at header_size
    type_table response_kind kind_asked count_rules count_refusal sent response_size is_sealed_by check_byte register feed steps step
    catalogue_of record_with has_key layout_row numbers two sae_prn prn_rows sae_slot slot_rows first_where
    report_of key_byte key_target length_for group_of spots spot_of spot_at place_after item_line slot_line cut bit_at form_line within_limits in_order
    pattern number_line quotient above raw_number signed of_int div remainder_at response_line group_lines lines_of verdict verdict_of any
    report_bytes rows_of row big_endian to_bits
reports_hold = (refl, refl, refl)

-- "Document 01's whole report becomes 44 bytes"
pub whole_cases_hold : map answered whole_cases ≡ map expected whole_cases
whole_cases_hold = reports_hold.0

-- Document 02, K5: what is shown with a selector of each length,
pub selector_cases_hold : map answered selector_cases ≡ map expected selector_cases
selector_cases_hold = reports_hold.1

-- and which records are refused: "Refusals: 13, 14, as for other kinds."
pub record_cases_hold : map answered record_cases ≡ map expected record_cases
record_cases_hold = reports_hold.2

pub iso_cases_hold : map answered iso_cases ≡ map expected iso_cases
unfolding iso_cases answered expected iso_read_refusal iso_read_rules first_broken is_sealed_by sum_byte sum wrong_first
iso_cases_hold = refl

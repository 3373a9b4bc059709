-- The search over the records finds the first with that key.
use mathlib.Core.Path.{ap, ◌∙◌}
use borrow.Author.Tests.{tests}
use Rattle.std.proofs.Common.{rules}
use Rattle.std.proofs.lemmas.Iterator.Consumers.{YieldsList-from_first}
use Rattle.std.proofs.lemmas.Iterator.Search.{find_from_yields_List}
use Rattle.catalogue.specs.Record.{has_key, record_with}
use Rattle.catalogue.specs.Supplement.{records_of}
use Rattle.catalogue.specs.declared.records.Records.{Records}
use Rattle.catalogue.proofs.search.Laws.{first_is}
use Rattle.catalogue.proofs.supplement.find_record.Goals as goal

pub returns : goal.returns
unfolding record_with
returns c =
    let given =
    YieldsList-from_first (λ x. x.now) (λ (r : Records). records_of r.rest.now) {s = c.of.result} (records_of c.args.s.now) (ap records_of c.of.ensures)
    in
    find_from_yields_List (has_key c.args.key.now) c.find.new.self _ c.find.result c.find.ensures.ran given (λ x b q k. search (rules, tests))
    ∙ first_is (has_key c.args.key.now) (records_of c.args.s.now)

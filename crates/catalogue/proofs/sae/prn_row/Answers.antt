-- The row that the search finds among the SAE rows.
use Rattle.catalogue.proofs.sae.Laws.{prn_searched, prn_rises}
use Rattle.catalogue.proofs.sae.prn_row.Goals as goal

pub row_with-requires : goal.row_with-requires
row_with-requires c = prn_rises c.prn_rows.ensures

pub returns : goal.returns
returns c = prn_searched _ c.prn_rows.ensures c.row_with.ensures

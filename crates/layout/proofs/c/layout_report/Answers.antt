-- What a report finds is narrow, by `report_narrow`, and is packed.
use Rattle.layout.proofs.Ranges.{report_narrow}
use Rattle.layout.proofs.c.layout_report.Goals as goal

pub pack_report-requires : goal.pack_report-requires
pack_report-requires c = report_narrow c.report.ensures

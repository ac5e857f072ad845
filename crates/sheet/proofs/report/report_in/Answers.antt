-- The area lies in the marks' window too, and fit rules reach no farther than 16.
use native.Mathlib.Omega.{arith}
use Rattle.sheet.proofs.Reports.{halo_narrow}
use Rattle.sheet.proofs.Shapes.{marks_area}
use Rattle.sheet.proofs.report.report_in.Goals as goal

pub settled_in-settled-requires : goal.settled_in-settled-requires
settled_in-settled-requires c = (rw c.of.ensures (marks_area c.requires.tables.waiting c.if-not-lies_in.ensures), omega (arith, halo_narrow c.requires c.halo-halo.ensures))

-- believed: The rows of an object as they were last assembled (own): its own, or shared with copies of it.
use Rattle.std.specs.Arc.{arc_value}
use Rattle.grb_rows.specs.declared.base.Lists.{Lists}
use Rattle.grb_rows.specs.declared.base.Lists.TheVariants as lists
use Rattle.grb_lists.specs.Stored.{RowView}

-- the rows, whoever has them
abbrev pub rows_of : Lists → RowView
rows_of (lists.Own rows) = rows
rows_of (lists.Shared rows) = arc_value rows

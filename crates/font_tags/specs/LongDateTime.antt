-- Dates and times (OpenType, data types: LONGDATETIME, "Date and time represented in number of seconds since 12:00
-- midnight, January 1, 1904, UTC").
use Rattle.std.specs.Prelude.{ℤ}
use Rattle.font_tags.specs.declared.longdatetime.LongDateTime.{LongDateTime}

-- the seconds since 1904, negative before that, and the date with these seconds
abbrev pub date_seconds : LongDateTime → ℤ
date_seconds date = date.0

abbrev pub date_of : ℤ → LongDateTime
date_of seconds = record { 0 = seconds }

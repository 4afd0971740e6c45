-- Table data with a fixed-size header.
use Rattle.std.specs.Prelude.{◌≡◌, ℕ, List, take, drop}
use Rattle.font_base.specs.declared.table_data.TableHeader as TableHeader
use Rattle.font_base.specs.{declared.table_data.TableDataRef.TableDataRef}
use Rattle.font_base.specs.{declared.table_data.SampleHeader.SampleHeader, BigEndian.raw_value}

-- the bytes of a table
abbrev pub table_bytes : {H : Type 0} {header : TableHeader.Ghosts H} → TableDataRef H header → List ℕ
table_bytes table = table.data.now

-- the sample header with these bytes: `a` is the first two, `b` the others
pub record IsSampleHeader (bytes : List ℕ) (header : SampleHeader) : Type 0 where
  pub a : raw_value header.a ≡ take 2 bytes
  pub b : raw_value header.b ≡ drop 2 bytes

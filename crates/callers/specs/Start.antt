-- Where metrics are stored.
use Rattle.std.specs.Prelude.{ℕ, ◌*◌}

-- where the metric at an index is stored (OpenType, hmtx: four bytes each)
abbrev pub metric_offset : ℕ → ℕ
metric_offset index = index * 4

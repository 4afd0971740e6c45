use Rattle.std.proofs.Common.{codes}
use Rattle.font_tags.specs.Version.{version_bits}
use Rattle.font_tags.proofs.VersionText.{bits_written}
use Rattle.font_tags.proofs.version.Version16Dot16Debug.fmt.Goals as goal

pub returns : goal.returns
returns g c = record {
  writes = bits_written _ _ _ _ c.in_radix.result c.laid_out.result (version_bits c.args.self.now)
      (codes "Version16Dot16(") (codes ")") c.in_radix.ensures c.laid_out.ensures c.write.ensures.writes;
}

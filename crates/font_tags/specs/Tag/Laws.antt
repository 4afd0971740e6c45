-- `==` of tags is identity.
use Rattle.std.proofs.Common.{◌≡◌, nat_eq, arith}
use Rattle.std.specs.{Bool.Decides, Cmp.Lexicographic.pointwise, Cmp.Lexicographic.bytes_decides}
use Rattle.font_tags.specs.{declared.tag.Tag.Tag, Tag.tag_bytes}

pub tag_identity : (a b : Tag) → Decides (pointwise nat_eq (tag_bytes a) (tag_bytes b)) (a ≡ b)
tag_identity a b = grind (arith, bytes_decides)

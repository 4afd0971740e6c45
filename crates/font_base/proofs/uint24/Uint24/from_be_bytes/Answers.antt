use Rattle.std.proofs.Common.{rules, arith, ◌≡◌, ◌+◌, ◌*◌, ◌/◌, get_or}
use Rattle.font_base.specs.Bytes.Laws.{bytes_of_gives}
use Rattle.font_base.proofs.ThreeBytes.{from_three}
use Rattle.font_base.proofs.uint24.Uint24.from_be_bytes.Goals as goal

pub returns-clause-bytes : goal.returns-clause-bytes
returns-clause-bytes c =
    let bytes = c.args.bytes in
    let number : c.from_be_bytes-value.result / 256
    ≡ get_or bytes 0 0 * 65536 + get_or bytes 1 0 * 256 + get_or bytes 2 0
    = omega (arith, c.from_be_bytes-value.ensures) in
    let are = from_three bytes (search rules) (search rules) (search rules) (search rules) in
    rw number (bytes_of_gives 3 _ bytes are)

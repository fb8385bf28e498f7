-- `listing::put_lines` meets its contract: the entry's text, a line feed, and what follows the line. Assumes nothing.
use mathlib.Core.Path.{ap}
use mathlib.Core.List.{[], ◌∷◌, ◌++◌, append_assoc}
use Prim.Native.Nat.{ℕ}
use native.Mathlib.Omega.{arith}
use lib.ListN.{length, length-append}
use lib.Utf8.{encode}
use Rattle.paper.specs.Placard.{feed}
use Rattle.wording.specs.Texts.{entry_text}
use Rattle.wording.proofs.Plain.{text_most}
use Rattle.listing.specs.Listings.{remark, lines_of}
use Rattle.listing.proofs.Sizes.{length-lines, lines_most}
use Rattle.listing.proofs.put_lines.Goals as goal

pub push-requires : goal.push-requires
unfolding encode
push-requires c = omega (arith, text_most c.args.e, ap length c.put_text.ensures, length-append {A = ℕ}, c.requires)

pub put_remark-requires : goal.put_remark-requires
put_remark-requires c =
    let a = c.args in
    omega (arith, length-lines a.c a.e, lines_most a.c a.e, ap length c.put_text.ensures, ap length (c.push.ensures.ascii (omega arith)), length-append {A = ℕ}, c.requires)

pub returns : goal.returns
unfolding lines_of
returns c =
    let a = c.args in
    let s = a.text.now.bytes in
    rw (
      c.put_remark.ensures,
      c.push.ensures.ascii (omega arith),
      c.put_text.ensures,
      append_assoc (s ++ entry_text a.e) (feed ∷ []) (remark a.c a.e),
      append_assoc s (entry_text a.e) (feed ∷ remark a.c a.e),
    )

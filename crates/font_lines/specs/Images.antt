-- The images of a point under two matrices, composed and in turn, as text.
use Rattle.std.specs.Prelude.{◌≡◌, ℕ, ℤ, List, [], ◌∷◌, ◌++◌, codes, Ok}
use Rattle.font_types.specs.Matrix.{elements_of, image_of, matrix_product}
use Rattle.font_types.specs.FixedMatrix.{matrix_bits, point_bits, wrapped_sum, wrapped_product}
use Rattle.font_types.specs.{Shortest.shortest_text, Fixed.Fixed, matrix.Matrix.Matrix, point.Point.Point}
use Rattle.font_lines.specs.Error.{Answer}

-- the coordinates of a point, which are given as raw values
abbrev pub coordinates_text : Point ℤ → List ℕ
coordinates_text p = shortest_text p.x 16 ++ codes " " ++ shortest_text p.y 16

-- the image under the product of a and b, which applies b first: products are rounded, and sums wrap
abbrev pub composed_image : Matrix ℤ → Matrix ℤ → Point ℤ → Point ℤ
composed_image a b p =
    image_of wrapped_sum wrapped_product (matrix_product wrapped_sum wrapped_product a b) p

-- the image under a of the image under b
abbrev pub image_in_turn : Matrix ℤ → Matrix ℤ → Point ℤ → Point ℤ
image_in_turn a b p =
    image_of wrapped_sum wrapped_product a (image_of wrapped_sum wrapped_product b p)

-- both images, in this order
abbrev pub images_text : Matrix ℤ → Matrix ℤ → Point ℤ → List ℕ
images_text a b p =
    coordinates_text (composed_image a b p) ++ codes " " ++ coordinates_text (image_in_turn a b p)

-- the numbers are the elements of two matrices and the coordinates of a point, and the answer is its
-- images
pub record ShowsImages (numbers : List Fixed) (answer : Answer) : Type 0 where
  pub a : Matrix Fixed
  pub b : Matrix Fixed
  pub p : Point Fixed
  pub are : numbers ≡ elements_of a ++ elements_of b ++ p.x ∷ p.y ∷ []
  pub shows : answer ≡ Ok (images_text (matrix_bits a) (matrix_bits b) (point_bits p))

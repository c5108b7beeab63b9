-- What the contracts of `whole` mean: a range, the rounding rule, the two roots, sums, bits and two's complement.
pub mod Exactly
pub mod Sizes
pub mod Round
pub mod Root
pub mod Sum
pub mod TwosComplement
pub mod Bits

pub mod DecodedLaw

pub mod UnitCodes

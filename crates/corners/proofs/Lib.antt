pub mod CornerTables

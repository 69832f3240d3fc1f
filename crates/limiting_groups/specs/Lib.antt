pub mod CurieTables

pub mod LayoutLines
